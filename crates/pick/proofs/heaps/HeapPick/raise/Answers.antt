use Rattle.std.proofs.Common.{sym, ◌∙◌}
use Rattle.pick.proofs.heaps.HeapPick.raise.Goals as goal

pub key-requires : goal.key-requires
key-requires c =
    (c.args.self.now.tree.back c.args.point c.in_ok-place.place (sym c.place.ensures ∙ c.in_ok-place.ensures.ok_part)).0
