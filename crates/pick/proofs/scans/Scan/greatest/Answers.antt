use Rattle.std.proofs.Common.{◌<◌, arith}
use Rattle.std.proofs.iter.Serving.{serving}
use Rattle.pick.proofs.Keys.{outside_below}
use Rattle.pick.proofs.scans.Scan.greatest.Goals as goal

pub returns : goal.returns
returns c =
    let scan = c.args.self.now in
    record {
      outside = grind serving;
      greatest = λ u l out.
          let below : u < 512 = omega (arith, scan.full, outside_below scan.keys u l out) in
          grind serving;
    }
