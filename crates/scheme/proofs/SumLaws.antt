-- Sums over a list, and over the points below a number.
use Rattle.std.proofs.Common.{◌≡◌, ℕ, zero, suc, ◌+◌, ◌*◌, ◌<◌, ◌≤◌, Bool, true, false, cond, eqb, List, [], ◌∷◌, sum_by, sym, refl, ap, ◌∙◌, ⊎_elim, suc-mul, zero-mul, arith}
use Rattle.std.specs.List.{AllZip, AllByRecursion}
use Rattle.std.proofs.lemmas.List.Sums.{sum_by-cons}
use Rattle.std.proofs.lemmas.Bool.{cases_eq, eq-eqb, ne_eqb}

-- ---- over a list

module _ {X : Type 0} where
  pub all_of : (P : X → Type 0) → ((x : X) → P x) → (xs : List X) → AllByRecursion P xs
  all_of P h [] = tt
  all_of P h (x ∷ xs) = (h x, all_of P h xs)

  pub all_both : (P Q : X → Type 0) (xs : List X) → AllByRecursion P xs → AllByRecursion Q xs → AllByRecursion (λ x. P x × Q x) xs
  all_both P Q [] p q = tt
  all_both P Q (x ∷ xs) p q = ((p.0, q.0), all_both P Q xs p.1 q.1)

  pub sum_by_none : (xs : List X) → sum_by (λ x. 0) xs ≡ 0
  sum_by_none [] = refl
  sum_by_none (x ∷ xs) = let ih = sum_by_none xs in omega (arith, sum_by-cons (λ (y : X). 0) x xs)

  pub sum_by_plus : (f g : X → ℕ) (xs : List X) → sum_by (λ x. f x + g x) xs ≡ sum_by f xs + sum_by g xs
  sum_by_plus f g [] = refl
  sum_by_plus f g (x ∷ xs) =
      let ih = sum_by_plus f g xs in
      omega (arith, sum_by-cons f x xs, sum_by-cons g x xs, sum_by-cons (λ y. f y + g y) x xs)

  -- what holds of each two terms holds of the sums
  pub sum_by_mono : (f g : X → ℕ) (xs : List X) → AllByRecursion (λ x. f x ≤ g x) xs → sum_by f xs ≤ sum_by g xs
  sum_by_mono f g [] h = omega arith
  sum_by_mono f g (x ∷ xs) h = let ih = sum_by_mono f g xs h.1 in omega (arith, sum_by-cons f x xs, sum_by-cons g x xs)

  pub sum_by_same : (f g : X → ℕ) (xs : List X) → AllByRecursion (λ x. f x ≡ g x) xs → sum_by f xs ≡ sum_by g xs
  sum_by_same f g [] h = refl
  sum_by_same f g (x ∷ xs) h = let ih = sum_by_same f g xs h.1 in omega (arith, sum_by-cons f x xs, sum_by-cons g x xs)

  -- and so for two sums on either side
  pub sum_by_balance :
      (a b c d : X → ℕ) (xs : List X) → AllByRecursion (λ x. a x + b x ≡ c x + d x) xs
      → sum_by a xs + sum_by b xs ≡ sum_by c xs + sum_by d xs
  sum_by_balance a b c d xs h =
      sym (sum_by_plus a b xs) ∙ sum_by_same (λ x. a x + b x) (λ x. c x + d x) xs h ∙ sum_by_plus c d xs

  pub sum_by_when : (b : Bool) (f : X → ℕ) (xs : List X) → cond b (sum_by f xs) 0 ≡ sum_by (λ x. cond b (f x) 0) xs
  sum_by_when true f xs = refl
  sum_by_when false f xs = sym (sum_by_none xs)

-- ---- over the points below n

abbrev pub sum_below : ℕ → (ℕ → ℕ) → ℕ
sum_below zero f = 0
sum_below (suc n) f = sum_below n f + f n

pub below_mono : (f g : ℕ → ℕ) (n : ℕ) → ((v : ℕ) → v < n → f v ≤ g v) → sum_below n f ≤ sum_below n g
below_mono f g zero h = omega arith
below_mono f g (suc n) h =
    let ih = below_mono f g n (λ v l. h v (omega arith)) in let here = h n (omega arith) in omega arith

pub below_same : (f g : ℕ → ℕ) (n : ℕ) → ((v : ℕ) → v < n → f v ≡ g v) → sum_below n f ≡ sum_below n g
below_same f g zero h = refl
below_same f g (suc n) h =
    let ih = below_same f g n (λ v l. h v (omega arith)) in let here = h n (omega arith) in omega arith

pub below_plus : (f g : ℕ → ℕ) (n : ℕ) → sum_below n (λ v. f v + g v) ≡ sum_below n f + sum_below n g
below_plus f g zero = refl
below_plus f g (suc n) = let ih = below_plus f g n in omega arith

pub below_balance :
    (a b c d : ℕ → ℕ) (n : ℕ) → ((v : ℕ) → v < n → a v + b v ≡ c v + d v)
    → sum_below n a + sum_below n b ≡ sum_below n c + sum_below n d
below_balance a b c d n h =
    sym (below_plus a b n) ∙ below_same (λ v. a v + b v) (λ v. c v + d v) n h ∙ below_plus c d n

pub below_none : (n : ℕ) → sum_below n (λ v. 0) ≡ 0
below_none zero = refl
below_none (suc n) = let ih = below_none n in omega arith

pub below_const : (k n : ℕ) → sum_below n (λ v. k) ≡ n * k
below_const k zero = sym (zero-mul k)
below_const k (suc n) = let ih = below_const k n in omega (arith, suc-mul n k)

-- one point alone
pub below_miss : (t : ℕ) (f : ℕ → ℕ) (n : ℕ) → n ≤ t → sum_below n (λ v. cond (eqb t v) (f v) 0) ≡ 0
below_miss t f zero h = refl
below_miss t f (suc n) h =
    let ih = below_miss t f n (omega arith) in rw (ne_eqb t n (omega arith)) (omega arith)

pub below_one : (t : ℕ) (f : ℕ → ℕ) (n : ℕ) → t < n → sum_below n (λ v. cond (eqb t v) (f v) 0) ≡ f t
below_one t f zero h = omega arith
below_one t f (suc n) h =
    ⊎_elim
    (λ (e : t ≡ n). let miss = below_miss t f n (omega arith) in rw (eq-eqb t n e) (omega (arith, miss, ap f e)))
    (λ (ne : t ≡ n → ⊥). let l : t < n = omega arith in let ih = below_one t f n l in rw (ne_eqb t n ne) (omega arith)) (cases_eq t n)

pub below_term : (f : ℕ → ℕ) (n v : ℕ) → v < n → f v ≤ sum_below n f
below_term f zero v h = omega arith
below_term f (suc n) v h =
    ⊎_elim (λ (e : v ≡ n). omega (arith, ap f e)) (λ ne. let ih = below_term f n v (omega arith) in omega arith) (cases_eq v n)

-- ---- both: the order of summing does not matter

pub exchange :
    {X : Type 0} (h : ℕ → X → ℕ) (n : ℕ) (xs : List X)
    → sum_below n (λ v. sum_by (h v) xs) ≡ sum_by (λ x. sum_below n (λ v. h v x)) xs
exchange h n [] = below_none n
exchange h n (x ∷ xs) =
    below_same (λ v. sum_by (h v) (x ∷ xs)) (λ v. h v x + sum_by (h v) xs) n (λ v l. sum_by-cons (h v) x xs)
    ∙ below_plus (λ v. h v x) (λ v. sum_by (h v) xs) n
    ∙ ap (λ k. sum_below n (λ v. h v x) + k) (exchange h n xs)
    ∙ sym (sum_by-cons (λ y. sum_below n (λ v. h v y)) x xs)

-- ---- over two lists side by side

module _ {X : Type 0} (R : X → X → Type 0) where
  pub each_same :
      (f g : X → ℕ) → ((x y : X) → R x y → f x ≡ g y) → (xs ys : List X) → AllZip R xs ys → sum_by f xs ≡ sum_by g ys
  each_same f g h [] [] e = refl
  each_same f g h [] (y ∷ ys) e = absurd e
  each_same f g h (x ∷ xs) [] e = absurd e
  each_same f g h (x ∷ xs) (y ∷ ys) e =
      let ih = each_same f g h xs ys e.1 in
      let here = h x y e.0 in
      omega (arith, sum_by-cons f x xs, sum_by-cons g y ys)

  pub each_weaker : (S : X → X → Type 0) → ((x y : X) → R x y → S x y) → (xs ys : List X) → AllZip R xs ys → AllZip S xs ys
  each_weaker S h [] [] e = tt
  each_weaker S h [] (y ∷ ys) e = absurd e
  each_weaker S h (x ∷ xs) [] e = absurd e
  each_weaker S h (x ∷ xs) (y ∷ ys) e = (h x y e.0, each_weaker S h xs ys e.1)

  -- what holds of the elements on one side, and of the pairs
  pub each_all :
      (P Q : X → Type 0) → ((x y : X) → R x y → P x → Q y) → (xs ys : List X) → AllZip R xs ys → AllByRecursion P xs → AllByRecursion Q ys
  each_all P Q h [] [] e all = tt
  each_all P Q h [] (y ∷ ys) e all = absurd e
  each_all P Q h (x ∷ xs) [] e all = absurd e
  each_all P Q h (x ∷ xs) (y ∷ ys) e all = (h x y e.0 all.0, each_all P Q h xs ys e.1 all.1)

  pub each_self : ((x : X) → R x x) → (xs : List X) → AllZip R xs xs
  each_self h [] = tt
  each_self h (x ∷ xs) = (h x, each_self h xs)

  pub each_then :
      (S Q : X → X → Type 0) → ((x y z : X) → R x y → S y z → Q x z) → (xs ys zs : List X) → AllZip R xs ys → AllZip S ys zs
      → AllZip Q xs zs
  each_then S Q h [] [] [] a b = tt
  each_then S Q h [] [] (z ∷ zs) a b = absurd b
  each_then S Q h [] (y ∷ ys) zs a b = absurd a
  each_then S Q h (x ∷ xs) [] zs a b = absurd a
  each_then S Q h (x ∷ xs) (y ∷ ys) [] a b = absurd b
  each_then S Q h (x ∷ xs) (y ∷ ys) (z ∷ zs) a b = (h x y z a.0 b.0, each_then S Q h xs ys zs a.1 b.1)
