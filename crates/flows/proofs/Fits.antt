-- An order holds points of the scheme, each once.
use Rattle.std.proofs.Common.{◌≡◌, ℕ, zero, suc, ◌+◌, ◌<◌, ◌≤◌, Bool, true, false, cond, not, ◌||◌, eqb, ◌≢◌, List, [], ◌∷◌, ◌++◌, length, get_or, sym, refl, ap, ◌∙◌, ⊎_elim, arith}
use Rattle.std.proofs.lemmas.List.{length_push, get_or_push, get_or_append_left}
use Rattle.std.proofs.lemmas.Bool.{both_ways, cases_eq, eqb-true, eq-eqb, or_left, or_right}
use Rattle.scheme.specs.Scheme.{Scheme}
use Rattle.scheme.specs.Flow.{Points, among}
use Rattle.scheme.specs.Questions.{WellFormed}
use Rattle.flows.specs.Ordering.{Outside, Taken, Made}
use Rattle.flows.specs.Ordering.Taken.{first, next}
use Rattle.flows.specs.Ordering.Made.{arrives, stops}
use Rattle.flows.specs.OrderingLaws.{OrdersFitTheScheme}
use Rattle.scheme.proofs.SumLaws.{sum_below, below_mono, below_plus, below_one, below_const}
use Rattle.flows.proofs.Borders.{outside_of}
use Rattle.flows.proofs.Orders.{among_push, among_push_cases}

-- the number of points outside, which falls with each point taken
abbrev pub outsiders : Scheme → Points → ℕ
outsiders s x = sum_below s.points (outside_of x (λ w. 1))

pub fewer :
    (s : Scheme) (ws : List ℕ) (v : ℕ) → Outside s (among ws) v
    → outsiders s (among (ws ++ v ∷ [])) + 1 ≤ outsiders s (among ws)
fewer s ws v out =
    let sums = below_plus (outside_of (among (ws ++ v ∷ [])) (λ w. 1)) (λ w. cond (eqb v w) 1 0) s.points in
    let most = below_mono _ (outside_of (among ws) (λ w. 1)) s.points each in
    omega (arith, below_one v (λ w. 1) s.points out.0)
  where
    small : (b c : Bool) → (c ≡ true → b ≡ false) → cond (not (b || c)) 1 0 + cond c 1 0 ≤ cond (not b) 1 0
    small true true e = absurd (both_ways true (e refl) refl)
    small true false e = omega arith
    small false true e = omega arith
    small false false e = omega arith

    each :
        (w : ℕ) → w < s.points
        → outside_of (among (ws ++ v ∷ [])) (λ w. 1) w + cond (eqb v w) 1 0 ≤ outside_of (among ws) (λ w. 1) w
    each w l = rw (among_push ws v w) (small (among ws w) (eqb v w) (λ e. rw (← eqb-true v w e) out.1))

-- an element of a list is among it
among_get_or : (ws : List ℕ) (i : ℕ) → i < length ws → among ws (get_or ws i 0) ≡ true
among_get_or [] i l = absurd (omega arith)
among_get_or (w ∷ ws) zero l = or_left (eqb w w) (among ws w) (eq-eqb w w refl)
among_get_or (w ∷ ws) (suc i) l = or_right (eqb w (get_or ws i 0)) (among ws (get_or ws i 0)) (among_get_or ws i (omega arith))

-- an order so far, with room for every point outside
pub record Fitting (s : Scheme) (ws ks : List ℕ) : Type 0 where
  pub later : List ℕ
  pub starts : ws ≡ s.inlet ∷ later
  pub keyed : length ws ≡ length ks + 1
  pub points : (v : ℕ) → among ws v ≡ true → v < s.points
  pub once : (i j : ℕ) → i < j → j < length ws → get_or ws i 0 ≢ get_or ws j 0
  pub room : length ws + outsiders s (among ws) ≤ s.points

fitting_first : (s : Scheme) → WellFormed s → Fitting s (s.inlet ∷ []) []
fitting_first s formed =
    record {
      later = [];
      starts = refl;
      keyed = refl;
      points = λ v h. among_push_cases (λ w. w < s.points) [] s.inlet v h (λ e. absurd (both_ways false refl e)) formed.inlet_point;
      once = λ i j less l. absurd (omega arith);
      room = omega (arith, fewer s [] s.inlet (formed.inlet_point, refl), below_const 1 s.points);
    }

fitting_next :
    (s : Scheme) (ws ks : List ℕ) (v k : ℕ) → Outside s (among ws) v → Fitting s ws ks
    → Fitting s (ws ++ v ∷ []) (ks ++ k ∷ [])
fitting_next s ws ks v k out fits =
    record {
      later = fits.later ++ v ∷ [];
      starts = ap (λ us. us ++ v ∷ []) fits.starts;
      keyed = omega (arith, fits.keyed, length_push ws v, length_push ks k);
      points = λ u h. among_push_cases (λ w. w < s.points) ws v u h (fits.points u) out.0;
      once = once;
      room = omega (arith, fits.room, length_push ws v, fewer s ws v out);
    }
  where
    once : (i j : ℕ) → i < j → j < length (ws ++ v ∷ []) → get_or (ws ++ v ∷ []) i 0 ≢ get_or (ws ++ v ∷ []) j 0
    once i j less l same =
        let size = length_push ws v in
        let front : i < length ws = omega arith in
        let early = get_or_append_left ws (v ∷ []) 0 i front in
        ⊎_elim
        (λ (e : j ≡ length ws).
        let is-v = sym early ∙ same ∙ get_or_push ws v 0 j (sym e) in
        both_ways (among ws v) out.1 (sym (ap (among ws) is-v) ∙ among_get_or ws i front))
        (λ (ne : j ≡ length ws → ⊥).
        let behind : j < length ws = omega arith in
        fits.once i j less behind (sym early ∙ same ∙ get_or_append_left ws (v ∷ []) 0 j behind))
        (cases_eq j (length ws))

pub taken_fits : (s : Scheme) {ws ks : List ℕ} → WellFormed s → Taken s ws ks → Fitting s ws ks
taken_fits s formed first = fitting_first s formed
taken_fits s formed (next {ws = ws} {ks = ks} {v = v} {k = k} taken n above inner) =
    fitting_next s ws ks v k n.outside (taken_fits s formed taken)

made_fitting :
    (s : Scheme) {order keys : List ℕ} {gain : ℕ} → WellFormed s → Made s order keys gain → Fitting s order keys
made_fitting s formed (arrives {ws = ws} {ks = ks} {k = k} taken n above) =
    fitting_next s ws ks s.outlet k n.outside (taken_fits s formed taken)
made_fitting s formed (stops taken n) = taken_fits s formed taken

pub orders_fit : OrdersFitTheScheme
orders_fit s order keys gain formed made =
    let fits = made_fitting s formed made in
    record {
      later = fits.later;
      starts = fits.starts;
      keyed = fits.keyed;
      points = fits.points;
      once = fits.once;
      short = omega (arith, fits.room);
    }
