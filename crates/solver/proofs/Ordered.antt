-- What the tables that an ordering left tell of it, and a round that was made from it.
use Rattle.std.proofs.Common.{◌≡◌, ℕ, ◌≤◌, cond, eqb, List, length, take, drop, sym, ap, ◌∙◌, arith, length-append, length-drop}
use Rattle.std.proofs.lemmas.List.FromFn.{length-map-range_with_len}
use Rattle.scheme.specs.Scheme.{Scheme}
use Rattle.pick.specs.Keys.{Keys, size}
use Rattle.flows.specs.Push.{push}
use Rattle.flows.proofs.Gaps.{round_raises}
use Rattle.flows.proofs.Limits.{limits_formed}
use Rattle.solver.specs.Calls.{RoundWorks}
use Rattle.solver.specs.Orders.{OrderingMade}
use Rattle.solver.specs.PushSteps.{GainAsks}
use Rattle.solver.specs.Ready.{Ready, ReadyToOrder}
use Rattle.solver.specs.Work.{Work, work_of, written, supply, places, position}
use Rattle.solver.proofs.Written.{written_start}

-- tables from equal parts
pub tables_are :
    (o p n o' p' n' : List ℕ) → o ≡ o' → p ≡ p' → n ≡ n' → work_of o p n ≡ work_of o' p' n'
tables_are o p n o' p' n' order place need = cc

module _ {s : Scheme} {o p : List ℕ} {gain count : ℕ} {o' p' : List ℕ} (m : OrderingMade s o p gain count o' p') where
  order_is : take count o' ≡ m.order
  order_is =
      ap (λ n. take n o') m.told ∙ ap (take (length m.order)) m.order_table ∙ written_start m.order o

  -- its gain can be pushed
  pub gain_asks : {ks : Keys} (need : List ℕ) → ReadyToOrder s o p ks → s.points ≤ length need → GainAsks s o' p' need gain count
  gain_asks need r needed =
      record {
        formed = r.formed;
        lawful = r.lawful;
        keys = m.keys;
        made = rw order_is m.made;
        listed = omega (arith, m.told, ap length m.order_table, length-append m.order (drop (length m.order) o));
        placed =
            ap (λ n. take n p') (sym (length-map-range_with_len (position 0 m.order) 0 s.points))
            ∙ ap (take (length (places s m.order))) m.place_table
            ∙ written_start (places s m.order) p
            ∙ ap (places s) (sym order_is);
        needed = needed;
      }

  -- and then a round was made
  pub round_works :
      {t : Scheme} {n n' : List ℕ} → t ≡ cond (eqb gain 0) s (push s (take count o') gain)
      → n' ≡ written (supply s gain) n → RoundWorks s (work_of o p n) gain count t (work_of o' p' n')
  round_works flows need =
      record {
        order = m.order;
        keys = m.keys;
        round =
            record {
              made = m.made;
              after = flows ∙ ap (λ order. cond (eqb gain 0) s (push s order gain)) order_is;
            };
        told = m.told;
        tables = tables_are _ _ _ _ _ _ m.order_table m.place_table need;
      }

-- a written table is no shorter
written_long : (new old : List ℕ) → length old ≤ length (written new old)
written_long new old = omega (arith, length-append new (drop (length new) old), length-drop (length new) old)

-- what a round may count on holds after it too
pub ready_after :
    {s t : Scheme} {w v : Work} {ks ls : Keys} {gain count : ℕ} → Ready s w ks → RoundWorks s w gain count t v → size ls ≡ size ks
    → Ready t v ls
ready_after {s} {t} {w} {v} {ks} {ls} {gain} r works stays =
    let leaves = round_raises s t works.order works.keys gain r.to_order.formed r.to_order.lawful works.round in
    let points : t.points ≡ s.points = ap (λ (u : Scheme). u.points) leaves.limits.relaid in
    record {
      to_order =
          record {
            formed = limits_formed s t leaves.limits r.to_order.formed;
            lawful = leaves.lawful;
            listed =
                omega (
                  arith,
                  points,
                  r.to_order.listed,
                  ap (λ (x : Work). length x.order) works.tables,
                  written_long works.order w.order,
                );
            placed =
                omega (
                  arith,
                  points,
                  r.to_order.placed,
                  ap (λ (x : Work). length x.place) works.tables,
                  written_long (places s works.order) w.place,
                );
            room = omega (arith, points, r.to_order.room, stays);
          };
      needed =
          omega (arith, points, r.needed, ap (λ (x : Work). length x.need) works.tables, written_long (supply s gain) w.need);
    }
