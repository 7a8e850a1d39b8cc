-- Reports: a verdict or a choice is reported to the place of the post, where that is another one.
use Rattle.std.proofs.Common.{ℕ, ◌≡◌, ◌==◌, Bool, true, false, ◌&&◌, not, cond, List, [], ◌∷◌, map, Option, Some, None, unwrap_or, refl, sym, ◌∙◌, ap, arith, eq-eqb}
use Rattle.std.specs.List.{filter}
use Rattle.std.proofs.lemmas.Bool.{eqb-true}
use Rattle.chorus_ui.specs.declared.ui.Ui.{Ui}
use Rattle.chorus_ui.specs.declared.layout.Layout.{Layout}
use Rattle.chorus_ui.specs.Layout.{group_place}
use Rattle.chorus_entry.specs.declared.entry.Entry.{Entry}
use Rattle.chorus_entry.specs.declared.id.MsgId.{MsgId}
use Rattle.chorus_entry.specs.declared.answer.Answer.{Answer}
use Rattle.chorus_entry.specs.declared.packet.Cargo.{Cargo}
use Rattle.chorus_entry.specs.Answer.{is_final}
use Rattle.chorus_entry.specs.Dest.{group_in}
use Rattle.chorus_entry.proofs.Same.{same_id-self}
use Rattle.chorus_world.specs.declared.place.Sent.{Sent}
use Rattle.chorus_world.specs.Posts.{Posted, post_of}
use Rattle.chorus_world.specs.Steps.{is_legal}
use Rattle.chorus_world.proofs.Messages.SendingLemmas.{sent_as, some_is}
use Rattle.chorus_world.proofs.Messages.StageLemmas.{HasOrigin}
use Rattle.chorus_world.proofs.Messages.MessageInvariant.{legal_messages}
use Rattle.chorus_world.proofs.Seats.SenderLaws.{copy_home}
use Rattle.law_machine.specs.declared.outgoing.Outgoing.{Outgoing}
use Rattle.law_machine.specs.PlaceState.{Turn, next_clock, packed}
use Rattle.law_machine.specs.Trying.{report}
use Rattle.law_network.specs.Packets.{put_all}
use Rattle.law_network.specs.UnderWay.{other_place, far_place, reported_to, is_of}
use Rattle.law_network.proofs.Links.LinkViews.{put-in}
use Rattle.law_network.proofs.Links.Abouts.{IsAbout, Moves, moves-put}

pub about-report : (x : MsgId) (a : Answer) → IsAbout x (Cargo.Report x a)
about-report x a = record { this = same_id-self x; others = λ z n. n; plain = refl; still = λ q. refl }

-- A message that the place p sent is reported from p, unless it was posted there.

pub reports-from : (l : Layout) (past : List Entry) (x : MsgId) (p : ℕ) (m : Sent) (d : Posted) → is_legal l past ≡ true → sent_as x p past ≡ Some m → post_of x past ≡ Some d
    → far_place l d.place (group_in d.dest) ≡ cond (p == d.place) None (Some p)
reports-from l past x p m d h k o = by m.route refl
  where
    from : HasOrigin x past p m
    from = (legal_messages l past h x).origin p m k

    same : from.post ≡ d
    same = some_is from.post d (sym from.posted ∙ o)

    group : m.route ≡ group_in d.dest
    group = from.route ∙ ap (λ (z : Posted). group_in z.dest) same

    choose : (g : Ui) (z : Option ℕ) → (unwrap_or z d.place == p) ≡ true → other_place d.place z ≡ cond (p == d.place) None (Some p)
    choose g None e = sym (ap (λ b. cond b None (Some p)) (eq-eqb p d.place (sym (eqb-true d.place p e))))
    choose g (Some r) e = ap (λ z. cond (z == d.place) None (Some z)) (eqb-true r p e)

    by : (r : Option Ui) → m.route ≡ r → far_place l d.place (group_in d.dest) ≡ cond (p == d.place) None (Some p)
    by None e =
        let home : d.place ≡ p = sym (ap (λ (z : Posted). z.place) same) ∙ from.place e in
        ap (far_place l d.place) (sym group ∙ e) ∙ sym (ap (λ b. cond b None (Some p)) (eq-eqb p d.place (sym home)))
    by (Some g) e =
        ap (far_place l d.place) (sym group ∙ e)
        ∙ choose g (group_place l g) (copy_home l past p x m g d h k e o)

-- the packets with the report

same-back : (a b : ℕ) → (a == b) ≡ (b == a)
same-back a b = grind (arith)

pub report-moves : (x : MsgId) (a : Answer) (t : Turn) (home : ℕ) (old now : List Outgoing) → Moves x old now → Moves x old (put_all (map (packed t) (report t.place.number home x a)) now)
report-moves x a t home old now h = by (is_final a && not (home == t.place.number))
  where
    by : (b : Bool) → Moves x old (put_all (map (packed t) (cond b ((home, Cargo.Report x a) ∷ []) [])) now)
    by true = moves-put x old now (packed t (home, Cargo.Report x a)) (about-report x a) h
    by false = h

pub report-view : (x : MsgId) (a : Answer) (t : Turn) (home : ℕ) (now : List Outgoing) → is_final a ≡ true → filter (is_of x) now ≡ []
    → filter (is_of x) (put_all (map (packed t) (report t.place.number home x a)) now) ≡ reported_to x (next_clock t) a home (cond (t.place.number == home) None (Some t.place.number))
report-view x a t home now f h =
    ap (λ b. filter (is_of x) (put_all (map (packed t) (cond (b && not (home == t.place.number)) ((home, Cargo.Report x a) ∷ []) [])) now)) f
    ∙ (ap (λ b. filter (is_of x) (put_all (map (packed t) (cond (not b) ((home, Cargo.Report x a) ∷ []) [])) now)) (same-back home t.place.number)
    ∙ by (t.place.number == home))
  where
    by : (b : Bool) → filter (is_of x) (put_all (map (packed t) (cond (not b) ((home, Cargo.Report x a) ∷ []) [])) now) ≡ reported_to x (next_clock t) a home (cond b None (Some t.place.number))
    by true = h
    by false = put-in (is_of x) (packed t (home, Cargo.Report x a)) now (same_id-self x) h
