-- DEMAND 2: a run gives exactly the orders of the list, in order.
use Prim.Native.Nat.{ℕ, ◌<◌}
use mathlib.Core.Path.{refl, sym, ap, subst, ◌∙◌}
use lib.ListN.{length}
use Rattle.kind.specs.Kind.{Kind}
use Rattle.chip.specs.Chip.{Lawful}
use Rattle.orders.specs.Table.{count, count_before}
use Rattle.orders.specs.Orders.{Order}
use Rattle.updater.specs.State.{position, first}
use Rattle.effects.specs.Effects.{order_place, order_length, InReach, WellPlaced}
use Rattle.orders.specs.Replies.{read}
use Rattle.effects.proofs.Laws.{in_reach}
use Rattle.life.specs.OrderList.{Demand2}
use Rattle.orders.proofs.Laws.{orders_length}
use Rattle.updater.proofs.Laws.{Numbers, fits_says, running_says, after_position, position_running, position_ended, current_order_law}
use Rattle.life.proofs.AreaLaws.{updates_area}
use Rattle.life.proofs.ReplyLaws.{moved, halted, halts, moves}

module _ (kind : Kind) (lawful : Lawful kind) where
  pub demand2 : Demand2 kind
  unfolding count_before
  demand2 = record {
    whole = orders_length kind;
    begins = λ layout n. refl;
    ends = position_ended;
    goes = position_running;
    moves = λ state image reply_kind bytes next e.
        let m = moved kind state image reply_kind bytes next e in
        (m, ap position m.comes ∙ after_position state (length image) m.fitted m.ran);
    agrees = λ state image reply_kind bytes. moves kind state image reply_kind bytes;
    halts = λ state image bytes place expected. halts kind state image read bytes place expected;
    stops = λ state image reply_kind bytes. halted kind state image reply_kind bytes;
    area = λ layout image e. updates_area kind layout image (fits_says (first layout (length image)) (length image) e).numbers;
    reach = λ state image e r.
        let f = fits_says state (length image) e in
        let s = running_says state (length image) e r in
        let numbers : Numbers state.layout (length image) = subst (Numbers state.layout) f.same f.numbers in
        subst (λ (o : Order). InReach state.layout (order_place o) (order_length o) × WellPlaced o) (sym (current_order_law kind state image e r))
        (in_reach kind lawful state.layout image numbers state.index state.phase s.0 (subst (λ (n : ℕ). state.index < count state.layout n state.phase) f.same s.1));
  }
