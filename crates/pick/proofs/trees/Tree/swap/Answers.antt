use Rattle.std.proofs.Common.{◌≡◌, length, sym, ap, ◌∙◌, subst, arith}
use Rattle.arrayvec.proofs.ArrayVecLemmas.{items-with_items}
use Rattle.pick.specs.Entries.{entry_at, place_of, There, Back, held_by}
use Rattle.pick.specs.Trees.{point_in, place_in, Exchanged}
use Rattle.pick.proofs.Links.{swapped}
use Rattle.pick.proofs.trees.Tree.swap.Goals as goal

pub invariant_of-self : goal.invariant_of-self
invariant_of-self c =
    let t = c.args.self.now in
    let es' = c.swap.new.self in
    let ps' = c.swap-2.new.self in
    let a = c.args.a in
    let b = c.args.b in
    let len : length es' ≡ length t.entries.items = c.swap.ensures.len ∙ ap length c.deref_mut.ensures.value in
    let is = sym (items-with_items t.entries es' len) in
    let entries : Exchanged (entry_at t.entries.items) (entry_at es') a b = grind arith in
    let places : Exchanged (place_in t) (place_of ps') (point_in t a) (point_in t b) = grind arith in
    let tells = swapped t es' ps' a b c.requires.first c.requires.second len c.swap-2.ensures.len entries places in
    record {
      all = c.swap-2.ensures.len ∙ t.all;
      there = subst (λ xs. There xs ps') is tells.there;
      back = subst (λ xs. Back xs ps') is tells.back;
    }

pub returns-clause-held : goal.returns-clause-held
returns-clause-held c =
    let t = c.args.self.now in
    let es' = c.swap.new.self in
    let ps' = c.swap-2.new.self in
    let a = c.args.a in
    let b = c.args.b in
    let len : length es' ≡ length t.entries.items = c.swap.ensures.len ∙ ap length c.deref_mut.ensures.value in
    let entries : Exchanged (entry_at t.entries.items) (entry_at es') a b = grind arith in
    let places : Exchanged (place_in t) (place_of ps') (point_in t a) (point_in t b) = grind arith in
    ap (λ xs. held_by xs ps') (items-with_items t.entries es' len)
    ∙ (swapped t es' ps' a b c.requires.first c.requires.second len c.swap-2.ensures.len entries places).held
