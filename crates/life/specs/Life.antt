-- DEMAND 3: the life of a chip (document 01's term: "A chip's life"); the mission's demand 3 and its premises. One claim about any whole list of events.
use Rattle.std.specs.Prelude.{ℕ, ◌+◌, ◌≤◌, ◌≡◌, Bool, true, false, ◌&&◌, ◌||◌, List, [], ◌∷◌, eqb, length, Option, Some, None, Result, Ok, Err}
use Rattle.kind.specs.Layout.{golden_at}
use Rattle.flash.specs.Flash.{span}
use Rattle.chip.specs.Cut.{MayLeave}
use Rattle.kind.specs.Kind.{Kind}
use Rattle.chip.specs.Chip.{switch_word, golden_area, LoadsAlone, Loads, WellFormed, ContainsAt}
use Rattle.life.specs.Types.{Refusal, Layout, State, Reply, Next, Stopped, RefusedReply}
use Rattle.orders.specs.Orders.{Order, erase, program, look, orders}
use Rattle.updater.specs.State.{running, first, ended, current_order}
use Rattle.comparison.specs.Comparison.{differs}
use Rattle.effects.specs.Effects.{obeyed_span, leaves, obeyed, Bytes}
use Rattle.starts.specs.Starts.{start_answer}
use Rattle.orders.specs.Replies.{done, read}
use Rattle.updater.specs.Run.{reply_answer}

-- An open run: the state handed back last, the run's image, and whether the order that the state asks for has been carried out.
pub record Run : Type 0 where
  pub state : State
  pub image : List ℕ
  pub carried : Bool

-- A chip; the open run, if there is one; of the last run, open or not, how many looks of phase 1 have read FF and whether it has ordered the switch on; and the ordered image, at first none.
pub record World : Type 0 where
  pub chip : List ℕ
  pub run : Option Run
  pub looks : ℕ
  pub ordered : Bool
  pub image : Option (List ℕ)

-- The list starts with no run open.
abbrev pub fresh : List ℕ → World
fresh chip = record { chip = chip; run = None; looks = 0; ordered = false; image = None }

-- A run has found the switch segment erased once its 16 looks of phase 1 have all read FF. (Each is carried out once.)
abbrev pub found : World → Bool
found w = eqb w.looks 16

-- An order is the one that the state handed back last asks for; the event has what its span holds afterwards. So an order obeyed, one cut inside and one that the chip calls done and did otherwise are one event. A cut inside an order is that event, and then the cut.
pub data Event : Type 0 where
  starts : (layout : Layout) (image : List ℕ) → Event
  carries : (left : List ℕ) → Event
  replies : (image : List ℕ) (reply_kind : ℕ) (bytes : List ℕ) → Event
  cuts : Event

-- START. Accepted, it opens a run, from then on the last one; a run still open counts as cut. Refused, it changes nothing.
unfoldable pub after_start : Result State Refusal → List ℕ → World → World
after_start (Ok state) image w = record {
  chip = w.chip;
  run = Some (record { state = state; image = image; carried = false });
  looks = 0;
  ordered = false;
  image = w.image;
}
after_start (Err r) image w = w

-- whether a look finds what is expected; no other order does
unfoldable pub agrees : Order → List ℕ → Bool
agrees (erase place count) chip = false
agrees (program place bytes) chip = false
agrees (look place bytes) chip = elim (differs place (span chip place (length bytes)) bytes) [ None ↦ true | Some address ↦ false ]

-- ORDER. It has ordered the switch on once its order of phase 5 has begun, cut or not: that makes the run's image the ordered one.
unfoldable pub look_seen : Bool → ℕ → ℕ
look_seen true looks = looks + 1
look_seen false looks = looks

unfoldable pub ordered_image : Bool → List ℕ → Option (List ℕ) → Option (List ℕ)
ordered_image true image last = Some image
ordered_image false image last = last

unfoldable pub carry_out : Order → List ℕ → Run → World → World
carry_out order left run w = record {
  chip = leaves order w.chip left;
  run = Some (record { state = run.state; image = run.image; carried = true });
  looks = look_seen (eqb run.state.phase 1 && agrees order w.chip) w.looks;
  ordered = eqb run.state.phase 5 || w.ordered;
  image = ordered_image (eqb run.state.phase 5) run.image w.image;
}

-- REPLY. Refused, chip and state stay; otherwise the state is the one handed back.
unfoldable pub after_reply : Result Reply RefusedReply → Run → World → World
after_reply (Err r) run w = w
after_reply (Ok (Next state)) run w = record { chip = w.chip; run = Some (record { state = state; image = run.image; carried = false }); looks = w.looks; ordered = w.ordered; image = w.image }
after_reply (Ok (Stopped number place state)) run w = record { chip = w.chip; run = Some (record { state = state; image = run.image; carried = false }); looks = w.looks; ordered = w.ordered; image = w.image }

-- CUT. The state is lost and the run closed; chip, flags and ordered image stay.
abbrev pub after_cut : World → World
after_cut w = record { chip = w.chip; run = None; looks = w.looks; ordered = w.ordered; image = w.image }

-- the order that a run asks for
abbrev pub order_of_run : Kind → Run → Order
order_of_run kind run = current_order kind run.state run.image

-- what an event does with the run that is open
unfoldable pub on_run {ℓ} : {A : Type ℓ} → Option Run → A → (Run → A) → A
on_run None closed opened = closed
on_run (Some run) closed opened = opened run

-- ONE EVENT. An order or a reply without an open run changes nothing, and no list has one (`Admissible`).
unfoldable pub next : Kind → World → Event → World
next kind w (starts layout image) = after_start (start_answer kind layout image) image w
next kind w (carries left) = on_run w.run w (λ run. carry_out (order_of_run kind run) left run w)
next kind w (replies image reply_kind bytes) = on_run w.run w (λ run. after_reply (reply_answer kind run.state image reply_kind bytes) run w)
next kind w cuts = after_cut w

-- THE PREMISES. Every run uses the chip's own layout: its length and its U. (A is nowhere on a chip, and nothing is asked of it.) A refused start may carry anything.
unfoldable pub AdmissibleStart : Result State Refusal → ℕ → Layout → World → Type 0
AdmissibleStart (Ok state) update_place layout w = (layout.chip_length ≡ length w.chip) × (layout.update_place ≡ update_place)
AdmissibleStart (Err r) update_place layout w = Unit {0}

-- What may stand in an order's span afterwards: in segment 0 each bit old or as ordered, in the update area any bytes. Nothing is asked of a look. ("As ordered" is here as an obeying chip would hold it; of every order that a run can give this is the rule word for word: the theorem `AsOrdered`.)
unfoldable pub AdmissibleSpan : Order → List ℕ → List ℕ → Type 0
AdmissibleSpan (erase place count) chip left = MayLeave chip place (obeyed_span (erase place count) chip) left
AdmissibleSpan (program place bytes) chip left = MayLeave chip place (obeyed_span (program place bytes) chip) left
AdmissibleSpan (look place bytes) chip left = Unit {0}

-- The order of a run before phase 7, carried out once.
pub record AdmissibleOrder (kind : Kind) (left : List ℕ) (run : Run) (w : World) : Type 0 where
  pub asked : running run.state ≡ true
  pub once : run.carried ≡ false
  pub leaves : AdmissibleSpan (order_of_run kind run) w.chip left

-- Reads are true: the reply to a look has the bytes that stand there. (That the reply to an erase or program says done is question 8.)
unfoldable pub TrueRead : Order → List ℕ → List ℕ → Type 0
TrueRead (erase place count) chip bytes = Unit {0}
TrueRead (program place contents) chip bytes = Unit {0}
TrueRead (look place expected) chip bytes = bytes ≡ span chip place (length expected)

-- A reply that is not refused: its order has been carried out, the image is the run's, and it says done or the bytes read.
pub record TruthfulReply (kind : Kind) (image bytes : List ℕ) (run : Run) (w : World) : Type 0 where
  pub carried : run.carried ≡ true
  pub same : image ≡ run.image
  pub reads : TrueRead (order_of_run kind run) w.chip bytes

-- A refused reply (stops 10 to 12 are not) may carry anything and may come before its order.
unfoldable pub AdmissibleReply : Result Reply RefusedReply → Kind → List ℕ → List ℕ → Run → World → Type 0
AdmissibleReply (Err r) kind image bytes run w = Unit {0}
AdmissibleReply (Ok (Next state)) kind image bytes run w = TruthfulReply kind image bytes run w
AdmissibleReply (Ok (Stopped number place state)) kind image bytes run w = TruthfulReply kind image bytes run w

unfoldable pub Admissible : Kind → ℕ → World → Event → Type 0
Admissible kind update_place w (starts layout image) = AdmissibleStart (start_answer kind layout image) update_place layout w
Admissible kind update_place w (carries left) = on_run w.run (⊥) (λ run. AdmissibleOrder kind left run w)
Admissible kind update_place w (replies image reply_kind bytes) = on_run w.run (⊥) (λ run. AdmissibleReply (reply_answer kind run.state image reply_kind bytes) kind image bytes run w)
Admissible kind update_place w cuts = Unit {0}

-- A list of events that keeps the premises, and the world after it.
unfoldable pub Valid : Kind → ℕ → World → List Event → Type 0
Valid kind update_place w [] = Unit {0}
Valid kind update_place w (event ∷ events) = Admissible kind update_place w event × Valid kind update_place (next kind w event) events

unfoldable pub life : Kind → World → List Event → World
life kind w [] = w
life kind w (event ∷ events) = life kind (next kind w event) events

-- the switch of a chip
abbrev pub is_on : Kind → World → Bool
is_on kind w = kind.is_on (switch_word w.chip)

-- THE UNCUT RUN on a chip that obeys, as events: its start, then each of its orders, obeyed, and a true reply.
unfoldable pub reply_kind_of : Order → ℕ
reply_kind_of (erase place count) = done
reply_kind_of (program place bytes) = done
reply_kind_of (look place bytes) = read

unfoldable pub bytes_read : Order → List ℕ → List ℕ
bytes_read (erase place count) chip = []
bytes_read (program place bytes) chip = []
bytes_read (look place bytes) chip = span chip place (length bytes)

unfoldable pub obeying : List ℕ → List Order → List ℕ → List Event
obeying image [] chip = []
obeying image (o ∷ more) chip = carries (obeyed_span o chip) ∷ replies image (reply_kind_of o) (bytes_read o (obeyed o chip)) ∷ obeying image more (obeyed o chip)

abbrev pub uncut : Kind → Layout → List ℕ → List ℕ → List Event
uncut kind layout image chip = starts layout image ∷ obeying image (orders kind layout image) chip

-- What "a chip loads an image at a place, whole, jumped or not" is said in: `Loads kind`, or the answers of the boot reader's calls (`Boots`, specs/Built.antt).
abbrev pub Loading : Type 1
Loading = List ℕ → List ℕ → ℕ → Bool → Type 0

-- An uncut run keeps the premises, ends in phase 7 with outcome 0, and makes its own image load, after a jump.
pub record Updates (kind : Kind) (loads : Loading) (update_place : ℕ) (layout : Layout) (image : List ℕ) (w : World) : Type 0 where
  pub valid : Valid kind update_place w (uncut kind layout image w.chip)
  pub state : (life kind w (uncut kind layout image w.chip)).run ≡ Some (record { state = ended (first layout (length image)) 0; image = image; carried = false })
  pub loaded : loads (life kind w (uncut kind layout image w.chip)).chip image update_place true

-- There is an ordered image, and it loads, after a jump.
pub record OrderedLoads (loads : Loading) (update_place : ℕ) (w : World) : Type 0 where
  pub image : List ℕ
  pub ordered : w.image ≡ Some image
  pub loaded : loads w.chip image update_place true

-- What a run tells that has ended with outcome 0: the switch is ON, its image is the ordered one, and that loads, after a jump.
pub record DoneLoads (kind : Kind) (loads : Loading) (update_place : ℕ) (run : Run) (w : World) : Type 0 where
  pub on : is_on kind w ≡ true
  pub ordered : w.image ≡ Some run.image
  pub loaded : loads w.chip run.image update_place true

-- THE CLAIM about a world.
pub record Claim (kind : Kind) (loads : Loading) (update_place : ℕ) (golden : List ℕ) (w : World) : Type 0 where
  -- The reader loads golden, whole and without a jump, exactly when the switch is OFF;
  pub off : is_on kind w ≡ false → loads w.chip golden golden_at false
  pub off_only : loads w.chip golden golden_at false → is_on kind w ≡ false
  -- otherwise there is an ordered image, that of the last run that ordered the switch on, and it loads, whole, after a jump; and no image loads after a jump unless the switch is ON.
  pub on : is_on kind w ≡ true → OrderedLoads loads update_place w
  pub on_only : (image : List ℕ) (place : ℕ) → loads w.chip image place true → is_on kind w ≡ true
  -- No update loads while the last run has found the switch segment erased and has not ordered it on: the switch is OFF.
  pub found_off : found w ≡ true → w.ordered ≡ false → is_on kind w ≡ false
  -- One more run, uncut on a chip that obeys, makes its own image load: every image that a start with this chip's length and U accepts.
  pub again : (layout : Layout) (image : List ℕ) (state : State) → start_answer kind layout image ≡ Ok state → layout.chip_length ≡ length w.chip → layout.update_place ≡ update_place →
      Bytes image → Updates kind loads update_place layout image w
  -- Done means done, on every chip that keeps the premises, also one that calls an order done and did otherwise: while a run is open in phase 7 with outcome 0, its own image loads.
  pub done_loads : (run : Run) → w.run ≡ Some run → run.state.phase ≡ 7 → run.state.outcome ≡ 0 → DoneLoads kind loads update_place run w

-- the ordered image, an accepted one, and that the chip contains it at U
pub record OrderedImageInPlace (kind : Kind) (update_place : ℕ) (w : World) : Type 0 where
  pub image : List ℕ
  pub ordered : w.image ≡ Some image
  pub some_bytes : 1 ≤ length image
  pub alone : LoadsAlone kind image
  pub contained : ContainsAt w.chip update_place image

-- Where a list may start: no run open, a well-formed chip, and if it is ON an ordered image at U. (A well-formed chip that is OFF, as a built one is, needs none.)
pub record LifeBegins (kind : Kind) (update_place : ℕ) (w : World) : Type 0 where
  pub closed : w.run ≡ None
  pub unseen : w.looks ≡ 0
  pub formed : WellFormed kind update_place w.chip
  pub image : is_on kind w ≡ true → OrderedImageInPlace kind update_place w

-- DEMAND 3, of any kind that keeps its laws, from any such start. Golden is what the golden area then held. (That `Valid` leaves out no list that the premises' words allow: `AsOrdered`.)
abbrev pub Demand3 : Kind → Type 0
Demand3 kind =
    (update_place : ℕ) (w : World) → LifeBegins kind update_place w → (events : List Event) → Valid kind update_place w events →
    Claim kind (Loads kind) update_place (golden_area update_place w.chip) (life kind w events)
