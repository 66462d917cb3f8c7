-- What is printed of a claim.
use Rattle.std.specs.Prelude.{ℕ, List, ◌++◌, ℤ, vec_items, codes, decimal}
use Rattle.std.specs.Fmt.{signed_decimal}
use Rattle.scheme.specs.Words.{side_from}
use Rattle.claims.specs.declared.reviewing.Claim.{Claim}

-- the five lines of a claim that was accepted
abbrev pub spelled_lines : ℕ → ℕ → ℤ → List ℕ → List ℕ
spelled_lines points reaches value side =
    codes "points " ++ (decimal points ++ (codes "\nreaches " ++ (decimal reaches ++ (codes "\nvalue " ++ (signed_decimal value ++ (codes "\nside" ++ (side ++ codes "\naccepted")))))))

abbrev pub claim_lines : Claim → List ℕ
claim_lines c = spelled_lines c.points c.reaches c.value (side_from 0 (vec_items c.marks))
