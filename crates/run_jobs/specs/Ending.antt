-- What became of each job, when all was closed. A past has its newest entry first.
-- l is the layout, c what was closed, hands are those of the comers, q is the queue, i a position in it, m a job.
use Rattle.std.specs.Prelude.{ℕ, ◌≡◌, ◌-◌, List, [], Some, slice_get}
use Rattle.std.specs.List.{filter}
use Rattle.chorus_ui.specs.declared.ui.Ui.{Ui}
use Rattle.chorus_ui.specs.declared.layout.Layout.{Layout}
use Rattle.chorus_entry.specs.declared.entry.Entry.{Entry}
use Rattle.chorus_entry.specs.declared.id.MsgId.{MsgId}
use Rattle.chorus_entry.specs.declared.message.Message.{Message}
use Rattle.chorus_world.specs.Fates.{MessageFate}
use Rattle.chorus_world.specs.Fates.MessageFate.{Received, Queued, UnderWay, Discarded}
use Rattle.law_network.specs.Holdings.{Holding, record_in}
use Rattle.law_network.specs.EachMessage.{is_waiting_in, WaitsOnce}
use Rattle.law_network.specs.Fates.{IsDiscarded}
use Rattle.law_replies.specs.AsPosted.{IsAsPosted}
use Rattle.chorus_net.specs.declared.closed.Closed.{Closed}
use Rattle.chorus_net.specs.Closing.{holdings_of, past_of}
use Rattle.chorus_sessions.specs.declared.hand.Hand.{Hand}
use Rattle.chorus_sessions.specs.declared.hand.PortMessage.{PortMessage}
use Rattle.chorus_sessions.specs.Hands.{WasDelivered}
use Rattle.run_jobs.specs.Promise.{accepted}

-- Hands.

-- got stands at the index j of the hand a
abbrev pub IsAt : List Hand → ℕ → ℕ → PortMessage → Type 0
IsAt hands a j got =
    (hand : Hand) × (slice_get hands a ≡ Some hand) × (slice_get hand.taken.items j ≡ Some got)

-- the job, as it was sent, is in one hand, there once, and in no other
pub record IsInOneHand (hands : List Hand) (q : Ui) (i : ℕ) (m : Message) : Type 0 where
  pub hand : ℕ
  pub index : ℕ
  pub stands : IsAt hands hand index (record { port = q; position = i; message = m })
  pub alone : (a j : ℕ) (got : PortMessage) → IsAt hands a j got → got.message.id ≡ m.id → (a ≡ hand) × (j ≡ index)

abbrev pub IsInNoHand : List Hand → Message → Type 0
IsInNoHand hands m = (a j : ℕ) (got : PortMessage) → IsAt hands a j got → got.message.id ≡ m.id → ⊥

-- Records of the queue, at a place or on its way.

-- the job, as it was sent, waits in one of them, there once, and in no other
pub record WaitsAsSent (holdings : List Holding) (q : Ui) (i : ℕ) (m : Message) (what : MessageFate) : Type 0 where
  pub once : WaitsOnce holdings q i m.id what
  pub as_sent : slice_get (record_in once.holding).pending (i - (record_in once.holding).first) ≡ Some m

abbrev pub WaitsNowhere : List Holding → Message → Type 0
WaitsNowhere holdings m = filter (is_waiting_in m.id) holdings ≡ []

-- The end: one of four. The job was handed out; or it waits in the queue, at a place or on its way; or it was discarded
-- with the queue.
abbrev pub EndsAs : List Entry → List Holding → List Hand → Ui → ℕ → Message → MessageFate → Type 0
EndsAs past holdings hands q i m Received = IsInOneHand hands q i m × WaitsNowhere holdings m
EndsAs past holdings hands q i m Queued = WaitsAsSent holdings q i m Queued × IsInNoHand hands m
EndsAs past holdings hands q i m UnderWay = WaitsAsSent holdings q i m UnderWay × IsInNoHand hands m
EndsAs past holdings hands q i m Discarded =
    IsDiscarded past q i m.id × WaitsNowhere holdings m × IsInNoHand hands m

abbrev pub HasOneEnd : Layout → Closed → List Hand → Ui → ℕ → Message → Type 0
HasOneEnd l c hands q i m = (what : MessageFate) × EndsAs (past_of c) (holdings_of l c) hands q i m what

-- Each job that the queue accepted was sent, and has one end. And each of which a client was told that the queue
-- accepted it was sent by that client, accepted at the position that was told, and has one end, with the bytes sent.
pub record KeepsEachJob (l : Layout) (c : Closed) (hands : List Hand) (q : Ui) : Type 0 where
  pub each : (i : ℕ) (x : MsgId) → slice_get (accepted q (past_of c)) i ≡ Some x
      → (m : Message) × (m.id ≡ x) × IsAsPosted m (past_of c) × HasOneEnd l c hands q i m
  pub told : (a j : ℕ) (hand : Hand) (sent : PortMessage) → slice_get hands a ≡ Some hand
      → slice_get hand.delivered.items j ≡ Some sent → sent.port ≡ q
      → WasDelivered (past_of c) hand.seat sent × HasOneEnd l c hands q sent.position sent.message
