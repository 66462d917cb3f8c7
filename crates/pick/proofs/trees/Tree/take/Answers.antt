use Rattle.std.proofs.Common.{◌≡◌, ℕ, ◌<◌, length, set, None, sym, refl, ap, ◌∙◌, subst, arith}
use Rattle.std.proofs.lemmas.List.{length-set}
use Rattle.pick.specs.Keys.{Outside}
use Rattle.pick.specs.Entries.{entry_at}
use Rattle.pick.specs.Trees.{held_in, key_in, count}
use Rattle.pick.proofs.Links.{outside_place, kept, entry_last, taken_known, taken_outside, one_fewer}
use Rattle.pick.proofs.Order.{top_greatest}
use Rattle.pick.proofs.trees.Tree.take.Goals as goal

pub returns-in_err-last-clause-takes : goal.returns-in_err-last-clause-takes
returns-in_err-last-clause-takes c =
    let t = c.args.self.now in
    rw c.from_residual.ensures
    record {
      empty = λ v k out.
          let found = outside_place t.entries.items t.places v k out in
          c.in_err-last.ensures (omega (arith, c.len.ensures.value, (t.back v found.0 found.1).0));
      unchanged = refl;
    }

pub bounds-self-from : goal.bounds-self-from
bounds-self-from c =
    let s = c.swap.new.self in
    let known = taken_known s c.pop.new.self.items c.in_ok-taken.taken c.in_ok-taken.ensures.items in
    omega (arith, s.all, c.from.ensures)

pub invariant_of-self-2 : goal.invariant_of-self-2
invariant_of-self-2 c =
    let s = c.swap.new.self in
    let tells = one_fewer s c.pop.new.self.items c.in_ok-taken.taken c.in_ok-taken.ensures.items in
    record {
      all = length-set s.places c.from.result None ∙ s.all;
      there = rw c.from.ensures tells.there;
      back = rw c.from.ensures tells.back;
    }

pub sink-requires-clause-sinking : goal.sink-requires-clause-sinking
sink-requires-clause-sinking c =
    let s = c.swap.new.self in
    let es' = c.pop.new.self.items in
    let same : (i : ℕ) → i < length es' → entry_at es' i ≡ entry_at s.entries.items i =
    kept s es' c.in_ok-taken.taken c.in_ok-taken.ensures.items in
    let len : length es' ≡ c.in_ok-last.last =
    omega (arith, c.in_ok-taken.ensures.len, c.swap.ensures.count, c.in_ok-last.ensures.1, c.len.ensures.value) in
    grind arith

pub returns-clause-takes : goal.returns-clause-takes
returns-clause-takes c =
    let t = c.args.self.now in
    let s = c.swap.new.self in
    let es' = c.pop.new.self.items in
    let taken = c.in_ok-taken.taken in
    let parts = c.in_ok-taken.ensures.items in
    let same : held_in s ≡ held_in t = c.swap.ensures.held in
    record {
      outside = subst (λ ks. Outside ks taken.point taken.key) same (taken_outside s es' taken parts);
      greatest = λ u l out.
          let found = outside_place t.entries.items t.places u l out in
          let top = top_greatest (key_in t) (count t) c.requires found.0 (t.back u found.0 found.1).0 in
          let len : length es' ≡ c.in_ok-last.last =
          omega (arith, c.in_ok-taken.ensures.len, c.swap.ensures.count, c.in_ok-last.ensures.1, c.len.ensures.value) in
          let was : taken.key ≡ key_in t 0 =
          ap (λ x. x.key) (sym (entry_last s es' taken parts)) ∙ ap (key_in s) len ∙ c.swap.ensures.keys.second in
          omega (arith, found.2);
      leaves = c.sink.ensures.held
          ∙ rw c.from.ensures (one_fewer s es' taken parts).held
          ∙ ap (λ ks. set ks taken.point None) same;
    }
