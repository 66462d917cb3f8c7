use Rattle.std.proofs.Common.{◌≡◌, ◌<◌, length, set, Some, None, refl, ap, ◌∙◌, arith}
use Rattle.std.proofs.lemmas.List.{length-set}
use Rattle.scheme.specs.Bounds.{most_points}
use Rattle.pick.specs.Keys.{key_of}
use Rattle.pick.specs.Trees.{place_in}
use Rattle.pick.proofs.Keys.{next_inside, started_more}
use Rattle.pick.proofs.Links.{inside_place, more_keys, none_back, none_held, one_more}
use Rattle.pick.proofs.trees.Tree.start.Goals as goal

-- no entry is there, so none is out of place
pub invariant_of-self : goal.invariant_of-self
invariant_of-self c =
    let empty = ap length c.clear.ensures in
    record { all = refl; there = λ i used. absurd (omega arith); back = none_back c.clear.new.self.items most_points }

pub loop-point-init : goal.loop-point-init
loop-point-init c =
    let empty = ap length c.clear.ensures in
    (empty, none_held c.clear.new.self.items most_points, λ i below. absurd (omega arith))

pub invariant_of-self-in-loop-point : goal.invariant_of-self-in-loop-point
invariant_of-self-in-loop-point c =
    let t = c.loop-point.self in
    let v = c.loop-point.point in
    let inside : place_in t v ≡ None =
    inside_place t.entries.items t.places v (ap (λ ks. key_of ks v) c.loop-point.invariant.1 ∙ next_inside most_points v (omega arith)) in
    let known : v < length t.places = omega (arith, t.all) in
    let grown = one_more t v 0 v inside known c.loop-point.invariant.0 in
    record {
      all = length-set t.places c.from.result (Some v) ∙ t.all;
      there = rw (c.push.ensures.items, c.from.ensures) grown.there;
      back = rw (c.push.ensures.items, c.from.ensures) grown.back;
    }

pub loop-point-preserved : goal.loop-point-preserved
loop-point-preserved c =
    let t = c.loop-point.self in
    let v = c.loop-point.point in
    let inside : place_in t v ≡ None =
    inside_place t.entries.items t.places v (ap (λ ks. key_of ks v) c.loop-point.invariant.1 ∙ next_inside most_points v (omega arith)) in
    let known : v < length t.places = omega (arith, t.all) in (
      omega (arith, c.push.ensures.len, c.loop-point.invariant.0),
      rw (c.push.ensures.items, c.from.ensures)
          ((one_more t v 0 v inside known c.loop-point.invariant.0).held
          ∙ ap (λ ks. set ks v (Some 0)) c.loop-point.invariant.1
          ∙ started_more most_points v (omega arith)),
      rw c.push.ensures.items (more_keys t v 0 v inside known c.loop-point.invariant.0 c.loop-point.invariant.2),
    )
