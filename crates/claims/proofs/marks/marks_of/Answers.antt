use Rattle.std.proofs.Common.{◌≡◌, ◌<◌, ◌≤◌, length, get_or, replicate, set, vec_items, sym, ap, ◌∙◌, subst, arith}
use Rattle.std.proofs.ByRecursion.{All-set}
use Rattle.std.proofs.lemmas.List.{length-replicate, length-set}
use Rattle.std.specs.List.{AllByRecursion}
use Rattle.scheme.specs.Marks.{marked}
use Rattle.claims.proofs.Marking.{none_marked, zeros_are_bits, marked_more, extent_covers}
use Rattle.claims.proofs.marks.marks_of.Goals as goal

pub loop-point-init : goal.loop-point-init
loop-point-init c =
    let n = c.extent_of.result in
    let zeros : vec_items c.in_ok-marks.marks ≡ replicate c.extent_of.result 0 = c.in_ok-marks.ensures.items_if_clones_equal (λ y e. e) in
    record {
      count = ap length zeros ∙ length-replicate n 0 ∙ c.extent_of.ensures;
      bits = subst (AllByRecursion (λ m. m ≤ 1)) (sym zeros) (zeros_are_bits n);
      members = λ v. ap (λ marks. marked marks v) zeros ∙ none_marked n v;
    }

pub index_mut-requires : goal.index_mut-requires
index_mut-requires c =
    let room = extent_covers c.args.points c.args.side.now c.loop-point.point-index c.loop-point-test.true in
    omega (arith, c.loop-point.invariant.count, c.loop-point.marks.ok.0)

pub loop-point-preserved : goal.loop-point-preserved
loop-point-preserved c =
    let side = c.args.side.now in
    let i = c.loop-point.point-index in
    let marks = vec_items c.loop-point.marks in
    let covered = extent_covers c.args.points side i c.loop-point-test.true in
    let room : get_or side i 0 < length marks = omega (arith, c.loop-point.invariant.count) in
    record {
      count = length-set marks c.from.result 1 ∙ c.loop-point.invariant.count;
      bits = All-set (λ m. m ≤ 1) marks c.from.result 1 (omega arith) c.loop-point.invariant.bits;
      members =
          λ v. ap (λ p. marked (set marks p 1) v) c.from.ensures
          ∙ marked_more marks side i v c.loop-point-test.true room (c.loop-point.invariant.members v);
    }
