use Rattle.std.proofs.Common.{rules}
use Rattle.std.proofs.lemmas.Iterator.{items_from_collect, YieldsList-from_slice, YieldsList-from_map}
use Rattle.worked_examples.specs.Dry.{dry_reach}
use Rattle.worked_examples.proofs.table.Goals as goal

pub returns : goal.returns
returns c =
    let rows = items_from_collect _ c.collect.ensures.ran (YieldsList-from_map _ dry_reach (YieldsList-from_slice c.args.reaches.now cc) c.map.ensures.closure (λ x r q k. search rules)) in
    search rules
