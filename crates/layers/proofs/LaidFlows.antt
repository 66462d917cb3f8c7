-- Other flows laid over a register, and over a junction.
use Rattle.std.proofs.Common.{◌≡◌, ℕ, zero, suc, ◌<◌, List, [], ◌∷◌, ◌++◌, map, length, get_or, sym, refl, ap, ◌∙◌, arith}
use Rattle.std.specs.List.{range_with_len}
use Rattle.std.proofs.lemmas.List.FromFn.{fill_by_all, length-map-range_with_len, get_or-map-range_with_len}
use Rattle.std.proofs.lemmas.List.Elements.{length_all_zip}
use Rattle.scheme.proofs.Relaid.{Alike, alike_relaid, formed_alike}
use Rattle.std.proofs.lemmas.List.{length-map}
use Rattle.scheme.specs.declared.rows.Reach.{Reach}
use Rattle.scheme.specs.Scheme.{Scheme, over, flowing, flows_over, with_flows}
use Rattle.scheme.specs.Questions.{WellFormed}
use Rattle.layers.specs.declared.gates.Gate.{Gate}
use Rattle.layers.specs.Junctions.{split, between, through, gate_reach, shut, carried_reaches, gate_reaches}

-- Flows laid over a list of reaches

length_flows : (rs : List Reach) (fs : List ℕ) → length (flows_over rs fs) ≡ length rs
length_flows rs fs = sym (length_all_zip Alike rs (flows_over rs fs) (alike_relaid rs fs))

get_or_flows : (rs : List Reach) (fs : List ℕ) (k : ℕ) (d : Reach) → k < length rs → length fs ≡ length rs → get_or (flows_over rs fs) k d ≡ flowing (get_or fs k 0) (get_or rs k d)
get_or_flows [] fs k d within long = absurd (omega arith)
get_or_flows (r ∷ rs) [] k d within long = absurd (omega arith)
get_or_flows (r ∷ rs) (f ∷ fs) zero d within long = refl
get_or_flows (r ∷ rs) (f ∷ fs) (suc k) d within long = get_or_flows rs fs k d (omega arith) (omega arith)

flows_append : (xs ys : List Reach) (fs gs : List ℕ) → length fs ≡ length xs → flows_over (xs ++ ys) (fs ++ gs) ≡ flows_over xs fs ++ flows_over ys gs
flows_append [] ys [] gs long = refl
flows_append [] ys (f ∷ fs) gs long = absurd (omega arith)
flows_append (x ∷ xs) ys [] gs long = absurd (omega arith)
flows_append (x ∷ xs) ys (f ∷ fs) gs long = ap (λ rest. flowing f x ∷ rest) (flows_append xs ys fs gs (omega arith))

-- over reaches that were all changed alike
pub flows_map : (t : Reach → Reach) → ((f : ℕ) (r : Reach) → flowing f (t r) ≡ t (flowing f r)) → (rs : List Reach) (fs : List ℕ) → flows_over (map t rs) fs ≡ map t (flows_over rs fs)
flows_map t alike [] fs = refl
flows_map t alike (r ∷ rs) [] = refl
flows_map t alike (r ∷ rs) (f ∷ fs) = ap (λ x. x ∷ flows_over (map t rs) fs) (alike f r) ∙ ap (λ rest. t (flowing f r) ∷ rest) (flows_map t alike rs fs)

pub formed_flows : (s : Scheme) (fs : List ℕ) → WellFormed s → WellFormed (with_flows s fs)
formed_flows s fs = formed_alike s (flows_over s.reaches fs) (alike_relaid s.reaches fs)

-- Flows laid over the gates of n points

abbrev pub gate_with : List Gate → List ℕ → ℕ → Gate
gate_with gates gs v = record { limit = (get_or gates v shut).limit; flow = get_or gs v 0 }

abbrev pub gates_with : ℕ → List Gate → List ℕ → List Gate
gates_with n gates gs = map (gate_with gates gs) (range_with_len 0 n)

pub gates_with_at : (n : ℕ) (gates : List Gate) (gs : List ℕ) (v : ℕ) → v < n → get_or (gates_with n gates gs) v shut ≡ gate_with gates gs v
gates_with_at n gates gs v point = get_or-map-range_with_len (gate_with gates gs) 0 n v v shut point (omega arith)

flows_through : (n : ℕ) (gates : List Gate) (gs : List ℕ) → length gs ≡ n → flows_over (gate_reaches n gates) gs ≡ gate_reaches n (gates_with n gates gs)
flows_through n gates gs long =
    let old = gate_reaches n gates in
    let new = gates_with n gates gs in
    let many : length (gate_reaches n gates) ≡ n = length-map-range_with_len (through n gates) 0 n in
    fill_by_all (through n new) (flows_over old gs) n (through n gates 0) (length_flows old gs ∙ many)
    (λ k point.
    get_or_flows old gs k (through n gates 0) (omega arith) (omega arith)
    ∙ ap (flowing (get_or gs k 0)) (get_or-map-range_with_len (through n gates) 0 n k k (through n gates 0) point (omega arith))
    ∙ ap (gate_reach n k) (sym (gates_with_at n gates gs k point)))

-- A flow laid over a junction is one laid over the register below and one over the gates.

pub flows_split : (s : Scheme) (gates : List Gate) (fs gs : List ℕ) → length fs ≡ length s.reaches → length gs ≡ s.points → with_flows (split s gates) (fs ++ gs) ≡ split (with_flows s fs) (gates_with s.points gates gs)
flows_split s gates fs gs long-fs long-gs =
    let n = s.points in
    let low = carried_reaches s in
    let own = gate_reaches n gates in
    ap (over (split s gates))
    (flows_append low own fs gs (long-fs ∙ sym (length-map s.reaches (between n)))
    ∙ ap (λ rs. rs ++ flows_over own gs) (flows_map (between n) (λ f r. refl) s.reaches fs)
    ∙ ap (λ rs. map (between n) (flows_over s.reaches fs) ++ rs) (flows_through n gates gs long-gs))
