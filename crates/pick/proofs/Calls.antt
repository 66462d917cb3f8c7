-- When a call is accepted, and what it leaves then: what code over any pick can lean on.
use Rattle.std.proofs.Common.{◌≡◌, ℕ, ◌+◌, ◌≤◌, true, set, is_some, Some, None, Option, refl, ⊎_elim, arith}
use Rattle.std.proofs.lemmas.Bool.{cases_lt, le-leb, lt-leb}
use Rattle.pick.specs.Keys.{Keys, size, Outside, NoneOutside}
use Rattle.pick.specs.Calls.{ask_start, after_start, started, greatest_key, ask_raise, after_raise, raised_key, Takes}

module _ (ks : Keys) (n : ℕ) (fits : n ≤ size ks) where
  pub start_accepted : ask_start ks n ≡ None
  start_accepted = rw (le-leb n (size ks) fits, ask_start) refl

  pub start_done : after_start ks n ≡ started (size ks) n
  start_done = rw (start_accepted, after_start) refl

pub start_fits : (ks : Keys) (n : ℕ) → ask_start ks n ≡ None → n ≤ size ks
start_fits ks n accepted =
    ⊎_elim (λ over. let refused = rw (lt-leb n (size ks) over) at accepted in grind arith) (λ fits. fits) (cases_lt (size ks) n)

module _ (ks : Keys) (v k by : ℕ) (out : Outside ks v k) (within : k + by ≤ greatest_key) where
  pub raise_accepted : ask_raise ks v by ≡ None
  raise_accepted = rw (out, ask_raise) (rw (le-leb (k + by) greatest_key within) refl)

  pub raise_done : after_raise ks v by ≡ set ks v (Some (k + by))
  raise_done = rw (raise_accepted, after_raise) (rw (out, raised_key) refl)

pub takes_some : (before : Keys) (r : Option (ℕ × ℕ)) (after : Keys) (v k : ℕ) → Takes before r after → Outside before v k → is_some r ≡ true
takes_some before None after v k takes out = absurd (takes.empty v k out)
takes_some before (Some taken) after v k takes out = refl

pub takes_nothing : (before : Keys) (r : Option (ℕ × ℕ)) (after : Keys) → Takes before r after → NoneOutside before → r ≡ None
takes_nothing before None after takes none = refl
takes_nothing before (Some taken) after takes none = absurd (none taken.0 taken.1 takes.outside)
