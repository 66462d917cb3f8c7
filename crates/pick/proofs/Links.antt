-- What a tree's entries mean, while they change.
use Rattle.std.proofs.Common.{◌≡◌, ℕ, ◌+◌, ◌<◌, ◌≢◌, List, [], ◌∷◌, ◌++◌, length, set, Some, None, Option, sym, refl, ap, ◌∙◌, ⊎_elim, arith}
use Rattle.std.specs.Option.{option_map}
use Rattle.std.proofs.Math.ListN.{get_or-map}
use Rattle.std.proofs.Math.Seq.{get_or-append_seam}
use Rattle.std.proofs.lemmas.List.{ext_get_or, get_or_past, get_or-set_same, get_or-set_other, get_or_append_left, get_or-append_right, length-set, length-map, length-append}
use Rattle.std.proofs.lemmas.Bool.{cases_eq}
use Rattle.pick.specs.declared.trees.Entry.{Entry}
use Rattle.pick.specs.declared.trees.Tree.{Tree}
use Rattle.pick.specs.Keys.{Keys, size, key_of, Outside}
use Rattle.pick.specs.Calls.{fresh}
use Rattle.pick.specs.Entries.{entry_at, point_at, key_at, place_of, There, Back, held_by}
use Rattle.pick.specs.Trees.{held_in, Exchanged}
use Rattle.pick.proofs.Keys.{key_of_fresh}

-- a place that two ways to read keys agree about tells the same key
same_key : (key key' : ℕ → ℕ) (o : Option ℕ) → ((i : ℕ) → o ≡ Some i → key' i ≡ key i) → option_map key' o ≡ option_map key o
same_key key key' None same = refl
same_key key key' (Some i) same = ap Some (same i refl)

no_key : (key : ℕ → ℕ) (o : Option ℕ) → option_map key o ≡ None → o ≡ None
no_key key None none = refl
no_key key (Some i) none = absurd (cc)

some_key : (key : ℕ → ℕ) (o : Option ℕ) (k : ℕ) → option_map key o ≡ Some k → (i : ℕ) × (o ≡ Some i) × (k ≡ key i)
some_key key None k is = absurd (cc)
some_key key (Some i) k is = (i, refl, (cc))

module _ (es : List Entry) (ps : List (Option ℕ)) where
  pub held_size : size (held_by es ps) ≡ length ps
  unfolding held_by
  held_size = length-map ps (option_map (key_at es))

  pub held_at : (v : ℕ) → key_of (held_by es ps) v ≡ option_map (key_at es) (place_of ps v)
  unfolding held_by
  held_at v = get_or-map (option_map (key_at es)) ps v None

  -- a list with the key of each point is what is held
  pub held_is : (ks : Keys) → length ps ≡ size ks → ((v : ℕ) → option_map (key_at es) (place_of ps v) ≡ key_of ks v) → held_by es ps ≡ ks
  held_is ks all each =
      ext_get_or None (held_by es ps) ks (held_size ∙ all) (λ v less. held_at v ∙ each v)

  -- an outside point has a place, and there its key
  pub outside_place : (v k : ℕ) → Outside (held_by es ps) v k → (i : ℕ) × (place_of ps v ≡ Some i) × (k ≡ key_at es i)
  outside_place v k out = some_key (key_at es) (place_of ps v) k (sym (held_at v) ∙ out)

  -- an inside point has none
  pub inside_place : (v : ℕ) → key_of (held_by es ps) v ≡ None → place_of ps v ≡ None
  inside_place v inside = no_key (key_at es) (place_of ps v) (sym (held_at v) ∙ inside)

-- no point has a place
module _ (es : List Entry) (n : ℕ) where
  pub none_back : Back es (fresh n)
  none_back v i here = let none = key_of_fresh n v in absurd (cc)

  pub none_held : held_by es (fresh n) ≡ fresh n
  none_held =
      held_is es (fresh n) (fresh n) refl
      (λ v. let none = key_of_fresh n v in ap (option_map (key_at es)) none ∙ sym none)

pub placed_known : (ps : List (Option ℕ)) (v i : ℕ) → place_of ps v ≡ Some i → v < length ps
placed_known ps v i here = grind (arith, get_or_past)

module _ (es es' : List Entry) (ps ps' : List (Option ℕ)) (all : length ps' ≡ length ps) where
  held_same : ((v : ℕ) → option_map (key_at es') (place_of ps' v) ≡ option_map (key_at es) (place_of ps v)) → held_by es' ps' ≡ held_by es ps
  held_same each =
      held_is es' ps' (held_by es ps) (all ∙ sym (held_size es ps)) (λ v. each v ∙ sym (held_at es ps v))

  -- just one point has another key
  held_set : (u : ℕ) (k : Option ℕ) → u < length ps → option_map (key_at es') (place_of ps' u) ≡ k → ((v : ℕ) → v ≢ u → option_map (key_at es') (place_of ps' v) ≡ option_map (key_at es) (place_of ps v)) → held_by es' ps' ≡ set (held_by es ps) u k
  held_set u k known new others =
      let held : Keys = held_by es ps in
      held_is es' ps' (set held u k) (all ∙ sym (length-set held u k ∙ held_size es ps))
      (λ v.
      ⊎_elim
      (λ same. grind (arith, get_or-set_same, held_size))
      (λ off. others v off ∙ sym (held_at es ps v) ∙ sym (get_or-set_other held u v k None off))
      (cases_eq v u))

-- points and places are inverse to each other, and these keys are what they mean
pub record Tells (es : List Entry) (ps : List (Option ℕ)) (ks : Keys) : Type 0 where
  pub there : There es ps
  pub back : Back es ps
  pub held : held_by es ps ≡ ks

module _ (t : Tree) where
  abbrev es : List Entry
  es = t.entries.items

  abbrev ps : List (Option ℕ)
  ps = t.places

  point_known : (i : ℕ) → i < length es → point_at es i < length ps
  point_known i used = grind (arith, placed_known)

  -- no two places have entries of the same point
  points_apart : (i j : ℕ) → i < length es → j < length es → i ≢ j → point_at es i ≢ point_at es j
  points_apart i j used-i used-j off same = grind arith

  -- the place of another point is another
  places_apart : (i v j : ℕ) → v ≢ point_at es i → place_of ps v ≡ Some j → j ≢ i
  places_apart i v j off here same = grind arith

  -- one more point has an entry
  module _ (v k n : ℕ) (inside : place_of ps v ≡ None) (known : v < length ps) (all : length es ≡ n) where
    abbrev more : List Entry
    more = es ++ record { point = v; key = k } ∷ []

    entry_kept : (i : ℕ) → i < n → entry_at more i ≡ entry_at es i
    entry_kept i used = get_or_append_left es _ _ i (omega arith)

    entry_new : entry_at more n ≡ record { point = v; key = k }
    entry_new = grind (arith, get_or-append_right)

    place_new : place_of (set ps v (Some n)) v ≡ Some n
    place_new = get_or-set_same ps v (Some n) None known

    place_kept : (u : ℕ) → u ≢ v → place_of (set ps v (Some n)) u ≡ place_of ps u
    place_kept u off = get_or-set_other ps v u (Some n) None off

    more_there : There more (set ps v (Some n))
    more_there i used = grind (arith, entry_kept, entry_new, place_new, place_kept, length-append {A = Entry})

    more_back : Back more (set ps v (Some n))
    more_back u i here =
        ⊎_elim
        (λ same. grind (arith, place_new, entry_new, length-append {A = Entry}))
        (λ off.
        let found : (i < length es) × (point_at es i ≡ u) = t.back u i (sym (place_kept u off) ∙ here) in
        grind (arith, entry_kept, length-append {A = Entry}))
        (cases_eq u v)

    pub more_keys : ((i : ℕ) → i < n → key_at es i ≡ k) → (i : ℕ) → i < n + 1 → key_at more i ≡ k
    more_keys same = grind (arith, entry_kept, entry_new)

    more_held : held_by more (set ps v (Some n)) ≡ set (held_by es ps) v (Some k)
    more_held =
        held_set es more ps (set ps v (Some n)) (length-set ps v (Some n)) v (Some k) known
        (ap (option_map (key_at more)) place_new ∙ ap (λ x. Some x.key) entry_new)
        (λ u off.
        ap (option_map (key_at more)) (place_kept u off)
        ∙ same_key (key_at es) (key_at more) (place_of ps u)
        (λ i here. ap (λ x. x.key) (entry_kept i (omega (arith, (t.back u i here).0)))))

    pub one_more : Tells more (set ps v (Some n)) (set (held_in t) v (Some k))
    one_more = record { there = more_there; back = more_back; held = more_held }

  -- two entries have changed places
  module _ (es' : List Entry) (ps' : List (Option ℕ)) (a b : ℕ) (used-a : a < length es) (used-b : b < length es) (as_many : length es' ≡ length es) (all : length ps' ≡ length ps) (entries : Exchanged (entry_at es) (entry_at es') a b) (places : Exchanged (place_of ps) (place_of ps') (point_at es a) (point_at es b)) where
    place_a : place_of ps' (point_at es a) ≡ Some b
    place_a = places.first ∙ t.there b used-b

    place_b : place_of ps' (point_at es b) ≡ Some a
    place_b = places.second ∙ t.there a used-a

    swap_there : There es' ps'
    swap_there i used' = grind (arith, place_a, place_b, points_apart, places_apart)

    swap_back : Back es' ps'
    swap_back v i here =
        ⊎_elim
        (λ at-a. grind (arith, place_a))
        (λ off-a.
        ⊎_elim
        (λ at-b. grind (arith, place_b))
        (λ off-b.
        let was : place_of ps v ≡ Some i = sym (places.others v off-a off-b) ∙ here in
        let found : (i < length es) × (point_at es i ≡ v) = t.back v i was in
        grind (arith, places_apart))
        (cases_eq v (point_at es b)))
        (cases_eq v (point_at es a))

    swap_held : held_by es' ps' ≡ held_by es ps
    swap_held =
        held_same es es' ps ps' all
        (λ v.
        ⊎_elim
        (λ at-a.
        grind (arith, place_a))
        (λ off-a.
        ⊎_elim
        (λ at-b.
        grind (arith, place_b))
        (λ off-b.
        ap (option_map (key_at es')) (places.others v off-a off-b)
        ∙ same_key (key_at es) (key_at es') (place_of ps v)
        (λ i here. ap (λ x. x.key) (entries.others i (places_apart a v i off-a here) (places_apart b v i off-b here))))
        (cases_eq v (point_at es b)))
        (cases_eq v (point_at es a)))

    pub swapped : Tells es' ps' (held_in t)
    swapped = record { there = swap_there; back = swap_back; held = swap_held }

  -- the entry at one place has another key
  module _ (at k : ℕ) (used : at < length es) where
    abbrev keyed : List Entry
    keyed = set es at (record { point = point_at es at; key = k })

    keyed_here : entry_at keyed at ≡ record { point = point_at es at; key = k }
    keyed_here = get_or-set_same es at _ _ used

    keyed_off : (i : ℕ) → i ≢ at → entry_at keyed i ≡ entry_at es i
    keyed_off i off = get_or-set_other es at i _ _ off

    points_stay : (i : ℕ) → point_at keyed i ≡ point_at es i
    points_stay i = grind (arith, keyed_here, keyed_off)

    key_there : There keyed ps
    key_there i low = grind (arith, points_stay, length-set {A = Entry})

    key_back : Back keyed ps
    key_back v i here =
        let found : (i < length es) × (point_at es i ≡ v) = t.back v i here in
        grind (arith, points_stay, length-set {A = Entry})

    key_held : held_by keyed ps ≡ set (held_by es ps) (point_at es at) (Some k)
    key_held =
        held_set es keyed ps ps refl (point_at es at) (Some k) (point_known at used)
        (ap (option_map (key_at keyed)) (t.there at used) ∙ ap (λ x. Some x.key) keyed_here)
        (λ v off.
        same_key (key_at es) (key_at keyed) (place_of ps v)
        (λ i here. ap (λ x. x.key) (keyed_off i (places_apart at v i off here))))

    pub another_key : Tells keyed ps (set (held_in t) (point_at es at) (Some k))
    another_key = record { there = key_there; back = key_back; held = key_held }

  -- the last entry is gone, and its point has no place any more
  module _ (es' : List Entry) (taken : Entry) (parts : es ≡ es' ++ taken ∷ []) where
    pub as_many : length es ≡ length es' + 1
    as_many = ap length parts ∙ length-append es' (taken ∷ [])

    pub entry_last : entry_at es (length es') ≡ taken
    entry_last = ap (λ xs. entry_at xs (length es')) parts ∙ get_or-append_seam es' taken [] _

    pub kept : (i : ℕ) → i < length es' → entry_at es' i ≡ entry_at es i
    kept i low = sym (ap (λ xs. entry_at xs i) parts ∙ get_or_append_left es' (taken ∷ []) _ i low)

    place_last : place_of ps taken.point ≡ Some (length es')
    place_last = ap (λ x. place_of ps x.point) (sym entry_last) ∙ t.there (length es') (omega (arith, as_many))

    pub taken_known : taken.point < length ps
    taken_known = placed_known ps taken.point (length es') place_last

    pub taken_outside : Outside (held_by es ps) taken.point taken.key
    taken_outside =
        held_at es ps taken.point ∙ ap (option_map (key_at es)) place_last ∙ ap (λ x. Some x.key) entry_last

    abbrev fewer : List (Option ℕ)
    fewer = set ps taken.point None

    place_stays : (v : ℕ) → v ≢ taken.point → place_of fewer v ≡ place_of ps v
    place_stays v off = get_or-set_other ps taken.point v None None off

    place_gone : place_of fewer taken.point ≡ None
    place_gone = get_or-set_same ps taken.point None None taken_known

    -- an entry of another point is not the last
    stays_below : (v i : ℕ) → v ≢ taken.point → place_of ps v ≡ Some i → i < length es'
    stays_below v i off here =
        let found : (i < length es) × (point_at es i ≡ v) = t.back v i here in
        grind (arith, as_many, entry_last)

    drop_there : There es' fewer
    drop_there i low = grind (arith, kept, place_stays, place_gone, points_apart, entry_last, as_many, stays_below)

    drop_back : Back es' fewer
    drop_back v i here = grind (arith, kept, place_stays, place_gone, points_apart, entry_last, as_many, stays_below)

    drop_held : held_by es' fewer ≡ set (held_by es ps) taken.point None
    drop_held =
        held_set es es' ps fewer (length-set ps taken.point None) taken.point None taken_known
        (ap (option_map (key_at es')) place_gone)
        (λ v off.
        ap (option_map (key_at es')) (place_stays v off)
        ∙ same_key (key_at es) (key_at es') (place_of ps v) (λ i here. ap (λ x. x.key) (kept i (stays_below v i off here))))

    pub one_fewer : Tells es' fewer (set (held_in t) taken.point None)
    one_fewer = record { there = drop_there; back = drop_back; held = drop_held }
