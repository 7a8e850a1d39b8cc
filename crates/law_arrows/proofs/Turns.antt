-- What a turn appends: all at its place; and where it works a packet off, first the entry that the packet leads to.
use Rattle.std.proofs.Common.{ℕ, ◌≡◌, Bool, true, false, List, [], ◌∷◌, ◌++◌, Some, refl, sym, ◌∙◌, ap, subst}
use Rattle.std.specs.List.{All}
use Rattle.std.proofs.lemmas.Bool.{false≢true}
use Rattle.std.proofs.lemmas.List.Elements.{All-nil, All-cons}
use Rattle.chorus_ui.specs.declared.ui.Ui.{Ui}
use Rattle.checker_rows.proofs.KeyLemmas.{ui_sym}
use Rattle.chorus_entry.specs.declared.entry.Entry.{Entry}
use Rattle.chorus_entry.specs.declared.id.MsgId.{MsgId}
use Rattle.chorus_entry.specs.declared.message.Message.{Message}
use Rattle.chorus_entry.specs.declared.dest.Dest.{Dest}
use Rattle.chorus_entry.specs.declared.dest.Dest.TheVariants as D
use Rattle.chorus_entry.specs.declared.answer.Answer.{Answer}
use Rattle.chorus_entry.specs.declared.answer.Answer.TheVariants as A
use Rattle.chorus_entry.specs.declared.act.Act.{Act}
use Rattle.chorus_entry.specs.declared.command.Command.{Command}
use Rattle.chorus_entry.specs.declared.packet.Packet.{Packet}
use Rattle.chorus_entry.specs.declared.packet.Cargo.{Cargo}
use Rattle.chorus_entry.specs.Act.{message_of}
use Rattle.chorus_entry.specs.MsgId.{same_id}
use Rattle.chorus_entry.specs.Same.{are_same}
use Rattle.chorus_world.specs.Views.{is_about, is_on}
use Rattle.chorus_world.proofs.Messages.SendingLemmas.{same_id_sym}
use Rattle.law_machine.specs.declared.outgoing.Outgoing.{Outgoing}
use Rattle.law_machine.specs.PlaceState.{Turn, Change, next_entry, say}
use Rattle.law_machine.specs.Own.{own}
use Rattle.law_machine.specs.PlaceMachine.{act, work}
use Rattle.law_machine.specs.Deciding.{decide, decision}
use Rattle.law_machine.specs.Choosing.{choice}
use Rattle.law_machine.specs.Working.{opens}
use Rattle.law_machine.proofs.Machine.Steps.{Step, Chooses, AnswersTry, HearsVerdict, Receives, Hears, act_of, taken, opening, begins}
use Rattle.law_machine.proofs.Machine.Follows.{act-gives, work-gives}
use Rattle.law_network.specs.UnderWay.{carries, is_of, is_with, moves, transfer, under_way}
use Rattle.chorus_ui.specs.declared.layout.Layout.{Layout}
use Rattle.law_picture.specs.declared.row.PacketKind.TheVariants as K
use Rattle.law_picture.specs.Causes.{goes_on, packet_of}
use Rattle.law_arrows.specs.Arrows.{kind_of}
use Rattle.law_arrows.proofs.Lists.{At}

-- What a packet or an entry is about: a message or a port.
pub data Subject : Type 0 where
  Of : (x : MsgId) → Subject
  With : (q : Ui) → Subject

abbrev pub test_of : Subject → Entry → Bool
test_of (Of x) = is_about (Some x)
test_of (With q) = is_on (Some q)

abbrev pub view_of : Subject → Outgoing → Bool
view_of (Of x) = is_of x
view_of (With q) = is_with q

abbrev pub holds : Subject → Cargo → Bool
holds (Of x) c = carries x c
holds (With q) c = moves q c

abbrev pub under_of : Layout → List Entry → Subject → List Outgoing
under_of l past (Of x) = under_way l past x
under_of l past (With q) = transfer past q

abbrev pub subject : Cargo → Subject
subject (Cargo.Try m q route only hop) = Of m.id
subject (Cargo.Verdict x q route answer) = Of x
subject (Cargo.Transfer port) = With port.ui
subject (Cargo.Ask m d) = Of m.id
subject (Cargo.Report x answer) = Of x

-- the turn has these newer entries, all of its place
pub record Grown (p : ℕ) (base : List Entry) (u : Turn) : Type 0 where
  pub later : List Entry
  pub journal : u.place.journal ≡ later ++ base
  pub places : All (At p) later
  pub number : u.place.number ≡ p

grown-on : (p : ℕ) (base : List Entry) (a : Act) (c : Change) (t : Turn) → Grown p base t → Grown p base (say a c t)
grown-on p base a c t g =
    record {
      later = next_entry a t ∷ g.later;
      journal = ap (λ es. next_entry a t ∷ es) g.journal;
      places = All-cons (At p) (next_entry a t) g.later g.number g.places;
      number = g.number;
    }

starts : (p : ℕ) (base : List Entry) (t : Turn) → t.place.journal ≡ base → t.place.number ≡ p → Grown p base t
starts p base t e n = record { later = []; journal = e; places = All-nil (At p); number = n }

pub act-grown : (c : Command) (t : Turn) → Grown t.place.number t.place.journal (act c t)
act-grown c t =
    let p = t.place.number in
    let base = t.place.journal in
    act-gives (Grown p base) (λ a x u n same g. grown-on p base a x u g) t c
    (λ x same. grown-on p base (own c t) x t (starts p base t refl refl))

-- A packet is worked off by this act first.
pub record Opened (c : Cargo) (t u : Turn) : Type 0 where
  pub act : Act
  pub grown : Grown t.place.number (next_entry act t ∷ t.place.journal) u
  pub kind : packet_of act ≡ kind_of c
  pub goes : goes_on act ≡ test_of (subject c)
  pub touches : (s : Subject) → holds s c ≡ true → test_of s (next_entry act t) ≡ true

decision-message : (x : MsgId) (q : Ui) (h : ℕ) (a : Answer) → message_of (decision x q h a) ≡ Some x
decision-message x q h (A.Accepted pos) = refl
decision-message x q h _ = refl

decision-goes : (x : MsgId) (q : Ui) (h : ℕ) (a : Answer) → goes_on (decision x q h a) ≡ is_about (Some x)
decision-goes x q h (A.Accepted pos) = refl
decision-goes x q h _ = refl

decision-kind : (x : MsgId) (q : Ui) (h : ℕ) (a : Answer) → packet_of (decision x q h a) ≡ K.Try
decision-kind x q h (A.Accepted pos) = refl
decision-kind x q h _ = refl

-- an act about the message of a packet touches what the packet is about
touches-message : (y : MsgId) (c : Cargo) (a : Act) (t : Turn) → message_of a ≡ Some y → ((x : MsgId) → carries x c ≡ same_id y x) → ((q : Ui) → moves q c ≡ false)
    → (s : Subject) → holds s c ≡ true → test_of s (next_entry a t) ≡ true
touches-message y c a t m about still (Of x) h =
    ap (are_same same_id (Some x)) m ∙ same_id_sym x y ∙ sym (about x) ∙ h
touches-message y c a t m about still (With q) h = absurd (false≢true (sym (still q) ∙ h))

-- an Ask is of a post to a group
abbrev pub IsGroup : Dest → Type 0
IsGroup (D.Port q) = ⊥
IsGroup _ = Unit {0}

abbrev pub IsOfGroup : Cargo → Type 0
IsOfGroup (Cargo.Ask m d) = IsGroup d
IsOfGroup _ = Unit {0}

-- what its first step says of the packet
record Says (c : Cargo) (s : Step) (t : Turn) : Type 0 where
  kind : packet_of (act_of s t) ≡ kind_of c
  goes : goes_on (act_of s t) ≡ test_of (subject c)
  touches : (x : Subject) → holds x c ≡ true → test_of x (next_entry (act_of s t) t) ≡ true

opened-by : (k : Packet) (t : Turn) (s : Step) → opening k.from k.cargo t ≡ Some s → Says k.cargo s t → Opened k.cargo t (work k t)
opened-by k t s is says =
    let p = t.place.number in
    let base = next_entry (act_of s t) t ∷ t.place.journal in
    record {
      act = act_of s t;
      grown = work-gives (Grown p base) (λ a x u n same g. grown-on p base a x u g) k t (subst (λ o. Grown p base (begins o t)) (sym is) (starts p base (taken s t) refl refl));
      kind = says.kind;
      goes = says.goes;
      touches = says.touches;
    }

chosen : (m : Message) (d : Dest) (g : Ui) (from : ℕ) (qs : List Ui) (t : Turn) → Says (Cargo.Ask m d) (Chooses m d g from qs) t
chosen m d g from [] t =
    record { kind = refl; goes = refl; touches = touches-message m.id (Cargo.Ask m d) (Act.NoMember m.id g) t refl (λ x. refl) (λ q. refl) }
chosen m d g from (q ∷ qs) t =
    record { kind = refl; goes = refl; touches = touches-message m.id (Cargo.Ask m d) (Act.Choose m.id g (q ∷ qs)) t refl (λ x. refl) (λ r. refl) }

pub opened : (from : ℕ) (c : Cargo) (t : Turn) → IsOfGroup c → Opened c t (opens from c t)
opened from c t is = by c is
  where
    step : (c : Cargo) (s : Step) → opening from c t ≡ Some s → Says c s t → Opened c t (opens from c t)
    step c = opened-by (record { clock = 0; from = from; cargo = c }) t

    by : (c : Cargo) → IsOfGroup c → Opened c t (opens from c t)
    by (Cargo.Try m q route only hop) is =
        let a = decide m q only hop t.place in
        step (Cargo.Try m q route only hop) (AnswersTry from m q route only hop) refl (record {
          kind = decision-kind m.id q hop a;
          goes = decision-goes m.id q hop a;
          touches = touches-message m.id (Cargo.Try m q route only hop) (decision m.id q hop a) t (decision-message m.id q hop a) (λ x. refl) (λ r. refl);
        })
    by (Cargo.Verdict x q route answer) is =
        step (Cargo.Verdict x q route answer) (HearsVerdict x (record { port = q; route = route }) answer) refl (record {
          kind = refl;
          goes = refl;
          touches = touches-message x (Cargo.Verdict x q route answer) (Act.Told x answer) t refl (λ y. refl) (λ r. refl);
        })
    by (Cargo.Transfer port) is = step (Cargo.Transfer port) (Receives port) refl (record { kind = refl; goes = refl; touches = touches })
      where
        touches : (s : Subject) → holds s (Cargo.Transfer port) ≡ true → test_of s (next_entry (Act.Arrive port.ui port.hop) t) ≡ true
        touches (Of x) h = absurd (false≢true h)
        touches (With q) h = ui_sym q port.ui ∙ h
    by (Cargo.Ask m (D.Port q)) is = absurd is
    by (Cargo.Ask m (D.All g)) is = let qs = choice (D.All g) t.place in step (Cargo.Ask m (D.All g)) (Chooses m (D.All g) g from qs) refl (chosen m (D.All g) g from qs t)
    by (Cargo.Ask m (D.One g)) is = let qs = choice (D.One g) t.place in step (Cargo.Ask m (D.One g)) (Chooses m (D.One g) g from qs) refl (chosen m (D.One g) g from qs t)
    by (Cargo.Ask m (D.OneAt g n)) is = let qs = choice (D.OneAt g n) t.place in step (Cargo.Ask m (D.OneAt g n)) (Chooses m (D.OneAt g n) g from qs) refl (chosen m (D.OneAt g n) g from qs t)
    by (Cargo.Report x answer) is =
        step (Cargo.Report x answer) (Hears x answer) refl
        (record { kind = refl; goes = refl; touches = touches-message x (Cargo.Report x answer) (Act.Heard x answer) t refl (λ y. refl) (λ r. refl) })
