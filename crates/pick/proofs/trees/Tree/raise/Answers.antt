use Rattle.std.proofs.Common.{◌≡◌, ℕ, List, length, set, sym, ap, ◌∙◌, subst}
use Rattle.std.proofs.lemmas.List.{length-set}
use Rattle.arrayvec.proofs.ArrayVecLemmas.{items-with_items}
use Rattle.pick.specs.declared.trees.Entry.{Entry}
use Rattle.pick.specs.Entries.{point_at, There, Back, held_by}
use Rattle.pick.proofs.Links.{another_key}
use Rattle.pick.proofs.trees.Tree.raise.Goals as goal

-- the entry at a place with another key
abbrev keyed : List Entry → ℕ → ℕ → List Entry
keyed es at k = set es at (record { point = point_at es at; key = k })

pub invariant_of-self : goal.invariant_of-self
invariant_of-self c =
    let t = c.args.self.now in
    let at = c.args.place in
    let k = c.args.key in
    let es' : List Entry = keyed c.deref_mut.result.now at k in
    let len : length es' ≡ length t.entries.items = length-set _ _ _ ∙ ap length c.deref_mut.ensures.value in
    let is = items-with_items t.entries es' len ∙ ap (λ xs. keyed xs at k) c.deref_mut.ensures.value in
    let tells = another_key t at k c.requires.within in
    record {
      all = t.all;
      there = subst (λ xs. There xs t.places) (sym is) tells.there;
      back = subst (λ xs. Back xs t.places) (sym is) tells.back;
    }

pub returns-clause-held : goal.returns-clause-held
returns-clause-held c =
    let t = c.args.self.now in
    let at = c.args.place in
    let k = c.args.key in
    let es' : List Entry = keyed c.deref_mut.result.now at k in
    let len : length es' ≡ length t.entries.items = length-set _ _ _ ∙ ap length c.deref_mut.ensures.value in
    c.climb.ensures.held
    ∙ ap (λ xs. held_by xs t.places) (items-with_items t.entries es' len ∙ ap (λ xs. keyed xs at k) c.deref_mut.ensures.value)
    ∙ (another_key t at k c.requires.within).held
