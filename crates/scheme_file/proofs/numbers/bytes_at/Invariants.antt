use Rattle.std.proofs.Common.{◌≡◌, ℕ, ◌+◌, ◌<◌, length, get_or, slice_index}
use Rattle.scheme_file.proofs.numbers.bytes_at.Given as goal

abbrev pub invariant-loop-k : goal.invariant-loop-k
invariant-loop-k g l =
    record {
      long : length l.byte-items ≡ g.row.N;
      so_far : (i : ℕ) → i < l.k → get_or l.byte-items i 0 ≡ slice_index l.bytes (l.at + i);
    }
