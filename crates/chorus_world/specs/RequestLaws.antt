-- Requests: in which order and how often ports accept them, said of one past.
use Rattle.std.specs.Prelude.{ℕ, ◌≡◌, ◌<◌, List, Some, slice_get}
use Rattle.chorus_ui.specs.declared.ui.Ui.{Ui}
use Rattle.chorus_entry.specs.declared.entry.Entry.{Entry}
use Rattle.chorus_entry.specs.declared.id.MsgId.{MsgId}
use Rattle.chorus_entry.specs.declared.tag.Tag.TheVariants.{Request}
use Rattle.chorus_world.specs.Posts.{tag_of}
use Rattle.chorus_world.specs.AcceptedLaws.{accepted_by}

-- of each client, the numbers of the requests that a port accepted rise
abbrev pub RequestsRise : List Entry → Type 0
RequestsRise past =
    (q : Ui) (i j : ℕ) (x y : MsgId) (n m : ℕ) (b c : Ui) → i < j → slice_get (accepted_by q past) i ≡ Some x →
    slice_get (accepted_by q past) j ≡ Some y → x.seat ≡ y.seat → tag_of x past ≡ Request n b →
    tag_of y past ≡ Request m c → n < m

-- and each request of a client is accepted at most once, at one position of one port, however often it is posted
abbrev pub AcceptsRequestsOnce : List Entry → Type 0
AcceptsRequestsOnce past =
    (q r : Ui) (i j : ℕ) (x y : MsgId) (n : ℕ) (b c : Ui) → slice_get (accepted_by q past) i ≡ Some x →
    slice_get (accepted_by r past) j ≡ Some y → x.seat ≡ y.seat → tag_of x past ≡ Request n b →
    tag_of y past ≡ Request n c →
    (q ≡ r) × (i ≡ j)
