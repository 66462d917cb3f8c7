-- The lines of the reaches, behind the five others.
use Rattle.std.proofs.Common.{◌≡◌, ℕ, zero, suc, ◌+◌, ◌-◌, ◌≤◌, List, [], ◌∷◌, length, get_or, codes, refl, ap, ◌∙◌, zero-add, arith}
use Rattle.std.proofs.lemmas.List.{get_or-append_right}
use Rattle.std.specs.List.{slice_get}
use Rattle.std.specs.Option.{option_map}
use Rattle.scheme.specs.declared.rows.Reach.{Reach}
use Rattle.scheme.specs.Flow.{value}
use Rattle.scheme.specs.Scheme.{Scheme, flow_at}
use Rattle.report_lines.specs.Lines.{number_line, value_line, side_line, flow_line, flow_lines, flow_told, lines_of_report}

-- the line at a place is that of the reach at this place
line_of_reach : (k : ℕ) (rs : List Reach) (i : ℕ) → get_or (flow_lines k rs) i [] ≡ flow_told (k + i) (option_map (λ r. r.flow) (slice_get rs i))
line_of_reach k [] i = refl
line_of_reach k (r ∷ rs) zero = ap (λ n. flow_line n r.flow) (omega arith)
line_of_reach k (r ∷ rs) (suc i) =
    let shifted : k + 1 + i ≡ k + suc i = omega arith in
    line_of_reach (k + 1) rs i ∙ ap (λ n. flow_told n (option_map (λ r. r.flow) (slice_get rs i))) shifted

-- past the five lines before them come those of the reaches
pub line_of_flow : (s : Scheme) (marks : List ℕ) (rounds line : ℕ) → 5 ≤ line → get_or (lines_of_report s marks rounds) line [] ≡ flow_told (line - 5) (flow_at s (line - 5))
line_of_flow s marks rounds line past =
    let five = number_line (codes "points ") s.points ∷ number_line (codes "reaches ") (length s.reaches) ∷ value_line (value s) ∷ number_line (codes "rounds ") rounds ∷ side_line marks ∷ [] in
    get_or-append_right five (flow_lines 0 s.reaches) 5 line [] refl past
    ∙ line_of_reach 0 s.reaches (line - 5)
    ∙ ap (λ n. flow_told n (flow_at s (line - 5))) (zero-add (line - 5))
