-- An ordering that is under way.
use Rattle.std.proofs.Common.{◌≡◌, ℕ, ◌+◌, ◌<◌, ◌≤◌, min, false, ◌≢◌, List, [], ◌∷◌, ◌++◌, length, set, None, sym, refl, ap, ◌∙◌, subst, arith}
use Rattle.std.proofs.lemmas.List.{length_push}
use Rattle.std.proofs.lemmas.Bool.{ne_eqb}
use Rattle.pick.specs.Calls.{greatest_key}
use Rattle.scheme.specs.Scheme.{Scheme}
use Rattle.scheme.specs.Flow.{Lawful, among}
use Rattle.scheme.specs.Questions.{WellFormed}
use Rattle.pick.specs.Keys.{Keys, key_of, NoneOutside}
use Rattle.pick.specs.Calls.{Taken}
use Rattle.flows.specs.Ordering.{least, Next, Taken as SoFar, Made}
use Rattle.flows.specs.Ordering.Taken.{first, next}
use Rattle.flows.specs.Ordering.Made.{arrives, stops}
use Rattle.flows.proofs.Fits.{taken_fits, fewer}
use Rattle.flows.proofs.Keys.{keys_within}
use Rattle.flows.proofs.Orders.{among_last, taken_lacks_outlet, least_push, least_min}
use Rattle.solver.specs.Orders.{OrderingMade, OrderBegun}
use Rattle.solver.specs.Raises.{GrownFrom, RoomToGrow, HoldsKeys}
use Rattle.solver.specs.Work.{written, places}
use Rattle.solver.proofs.Held.{taken_inside, untaken_outside, next_taken, held_taken, held_grown, room_held}
use Rattle.solver.proofs.Written.{written_more, written_places}

-- Over the tables o and p, which are o' and p' now: the points so far end with `last`, from which no key has grown yet.
pub record Underway (s : Scheme) (o p : List ℕ) (ks : Keys) (last count lowest : ℕ) (o' p' : List ℕ) : Type 0 where
  pub front : List ℕ
  pub keys : List ℕ
  pub so_far : SoFar s (front ++ last ∷ []) keys
  pub new : among front last ≡ false
  pub counted : count ≡ length front + 1
  pub lowest_is : lowest ≡ least keys greatest_key
  pub held : HoldsKeys s (among front) (among (front ++ last ∷ [])) ks
  pub order_table : o' ≡ written (front ++ last ∷ []) o
  pub place_table : p' ≡ written (places s (front ++ last ∷ [])) p

pub underway_first :
    (s : Scheme) (o p : List ℕ) (ks : Keys) (v : ℕ) → v ≡ s.inlet → OrderBegun s o p ks
    → Underway s o p ks v 1 greatest_key o p
underway_first s o p ks v is begun =
    subst (λ w. Underway s o p ks w 1 greatest_key o p) (sym is)
    record {
      front = [];
      keys = [];
      so_far = first;
      new = refl;
      counted = refl;
      lowest_is = refl;
      held = begun.held;
      order_table = begun.order_table;
      place_table = begun.place_table;
    }

module _ {s : Scheme} {o p : List ℕ} {ks : Keys} {last count lowest : ℕ} {o' p' : List ℕ}
    (way : Underway s o p ks last count lowest o' p') where
  pub last_inside : key_of ks last ≡ None
  last_inside = taken_inside s _ _ ks way.held last (among_last way.front last)

  pub room_from_last : WellFormed s → Lawful s → RoomToGrow last s.reaches ks
  room_from_last formed lawful = room_held s way.front last _ ks way.new way.held (keys_within s formed lawful)

  abbrev order : List ℕ
  order = way.front ++ last ∷ []

  -- once all keys have grown from the last point
  held_ready :
      (ready : Keys) → GrownFrom last s.reaches ks ready → HoldsKeys s (among order) (among order) ready
  held_ready ready grown = held_grown s way.front last (among order) ks way.new way.held ready grown

  pub some_outside : (ready : Keys) → WellFormed s → GrownFrom last s.reaches ks ready → NoneOutside ready → ⊥
  some_outside ready formed grown none =
      let lacks = taken_lacks_outlet s formed.apart way.so_far in
      none s.outlet _
      (untaken_outside s (among order) (among order) ready (held_ready ready grown) s.outlet (formed.outlet_point, lacks))

  -- a point is taken then
  module _ (ready after : Keys) (v k : ℕ) (formed : WellFormed s) (grown : GrownFrom last s.reaches ks ready)
      (takes : Taken ready v k after) where
    pub is_next : Next s (among order) v k
    is_next = next_taken s (among order) ready after v k (held_ready ready grown) takes

    long : count ≡ length order
    long = way.counted ∙ sym (length_push way.front last)

    -- the outlet is outside, so there are more points than the order has
    pub has_place : count < s.points
    has_place =
        let fits = taken_fits s formed way.so_far in
        omega (arith, long, fits.room, fewer s order v is_next.outside)

    pub stops_here : (told : ℕ) → told ≡ count → k ≡ 0 → OrderingMade s o p 0 told o' p'
    stops_here told is zero =
        record {
          order = order;
          keys = way.keys;
          made = stops {v = v} way.so_far (rw zero at is_next);
          told = is ∙ long;
          order_table = way.order_table;
          place_table = way.place_table;
        }

    -- and entered into the tables
    module _ (o'' p'' : List ℕ) (above : 0 < k) (room : s.points ≤ length o) (listed : o'' ≡ set o' count v)
        (placed : p'' ≡ set p' v count) where
      order_next : o'' ≡ written (order ++ v ∷ []) o
      order_next =
          listed ∙ ap (λ t. set t count v) way.order_table ∙ written_more order o count v long (omega (arith, has_place))

      place_next : p'' ≡ written (places s (order ++ v ∷ [])) p
      place_next =
          placed ∙ ap (λ t. set t v count) way.place_table
          ∙ written_places s order v count long is_next.outside.0 is_next.outside.1 p

      pub goes_on :
          (lowest'' : ℕ) → lowest'' ≡ min lowest k → v ≢ s.outlet → Underway s o p after v (count + 1) lowest'' o'' p''
      goes_on lowest'' lower inner =
          record {
            front = order;
            keys = way.keys ++ k ∷ [];
            so_far = next way.so_far is_next above (ne_eqb v s.outlet inner);
            new = is_next.outside.1;
            counted = ap (λ n. n + 1) long;
            lowest_is = lower ∙ least_with;
            held = held_taken s (among order) order ready after v k (held_ready ready grown) takes;
            order_table = order_next;
            place_table = place_next;
          }
        where
          least_with : min lowest k ≡ least (way.keys ++ k ∷ []) greatest_key
          least_with =
              let swapped : min greatest_key k ≡ min k greatest_key = omega arith in
              ap (λ n. min n k) way.lowest_is ∙ sym (least_min way.keys greatest_key k) ∙ ap (least way.keys) swapped
              ∙ sym (least_push way.keys k greatest_key)

      pub arrives_here :
          (gain told : ℕ) → gain ≡ min lowest k → told ≡ count + 1 → Lawful s → v ≡ s.outlet
          → OrderingMade s o p gain told o'' p''
      arrives_here gain told lower more lawful at =
          record {
            order = order ++ v ∷ [];
            keys = way.keys ++ k ∷ [];
            made = made;
            told = more ∙ ap (λ n. n + 1) long ∙ sym (length_push order v);
            order_table = order_next;
            place_table = place_next;
          }
        where
          gained : gain ≡ least way.keys k
          gained =
              let within = (keys_within s formed lawful).from_any (among order) v in
              let most : min greatest_key k ≡ k = omega (arith, is_next.is) in
              lower ∙ ap (λ n. min n k) way.lowest_is ∙ sym (least_min way.keys greatest_key k) ∙ ap (least way.keys) most

          made : Made s (order ++ v ∷ []) (way.keys ++ k ∷ []) gain
          made = rw (gained, at) (arrives way.so_far (rw at at is_next) above)
