-- A caller's client gave at most as many call numbers as the caller posted messages, in each schedule.
use Rattle.std.proofs.Common.{◌≡◌, ℕ, zero, suc, ◌<◌, ◌≤◌, nat_lt, ◌&&◌, ◌||◌, not, true, Option, Some, None, List, [], ◌∷◌, length, slice_get, refl, sym, ◌∙◌, ap, subst, arith}
use Rattle.std.specs.List.{All}
use Rattle.std.proofs.lemmas.Bool.{and_parts, ltb-true, false≢true}
use Rattle.std.proofs.lemmas.List.Elements.{All-nil, All-set, All-push, All-head, All-tail}
use Rattle.chorus_ui.specs.declared.layout.Layout.{Layout}
use Rattle.chorus_entry.specs.declared.command.Command.{Command}
use Rattle.chorus_entry.specs.declared.command.Command.TheVariants as commands
use Rattle.chorus_entry.specs.declared.packet.Packet.{Packet}
use Rattle.chorus_entry.specs.Command.{meets_conditions, has_body_in_limit, is_post}
use Rattle.chorus_calls.specs.Callers.{Seated, new_caller}
use Rattle.law_network.specs.Packets.{first_on}
use Rattle.law_network.specs.Network.{NetState, Event, Enter, Deliver, See, commanded, works_off, delivered, shown, schedule}
use Rattle.law_network.specs.Network.{Act as Acts}
use Rattle.law_network.specs.Schedules.{has_number_left, may_give}
use Rattle.chorus_place.specs.Calls.{is_call}
use Rattle.chorus_place.specs.GivenPosts.{GaveWithinPosts}
use Rattle.chorus_place.proofs.GivenPosts.{act-within, work-within}
use Rattle.chorus_net.specs.Sites.{IsScheduled}

-- Each caller of a schedule.

pub among : (cs : List Seated) (k : ℕ) (x : Seated) → slice_get cs k ≡ Some x → All GaveWithinPosts cs → GaveWithinPosts x
among [] k x e h = absurd (cc)
among (y ∷ cs) zero x e h = (let same : y ≡ x = cc in subst GaveWithinPosts same (All-head GaveWithinPosts y cs h))
among (y ∷ cs) (suc k) x e h = among cs k x e (All-tail GaveWithinPosts y cs h)

commanded-within : (k : ℕ) (c : Command) (o : Option Seated) (n : NetState) → slice_get n.callers k ≡ o → All GaveWithinPosts n.callers → All GaveWithinPosts (commanded k c o n).callers
commanded-within k c None n e h = h
commanded-within k c (Some x) n e h = All-set GaveWithinPosts n.callers k _ (act-within c _ (among n.callers k x e h)) h

worked-within : (k a b : ℕ) (x : Seated) (o : Option Packet) (n : NetState) → GaveWithinPosts x → All GaveWithinPosts n.callers → All GaveWithinPosts (works_off k a b x o n).callers
worked-within k a b x None n w h = h
worked-within k a b x (Some packet) n w h = All-set GaveWithinPosts n.callers k _ (work-within packet _ w) h

delivered-within : (k a b : ℕ) (o : Option Seated) (n : NetState) → slice_get n.callers k ≡ o → All GaveWithinPosts n.callers → All GaveWithinPosts (delivered k a b o n).callers
delivered-within k a b None n e h = h
delivered-within k a b (Some x) n e h = worked-within k a b x (first_on a b n.packets) n (among n.callers k x e h) h

shown-within : (k clock : ℕ) (o : Option Seated) (n : NetState) → slice_get n.callers k ≡ o → All GaveWithinPosts n.callers → All GaveWithinPosts (shown k clock o n).callers
shown-within k clock None n e h = h
shown-within k clock (Some x) n e h = All-set GaveWithinPosts n.callers k _ (among n.callers k x e h) h

pub all-within : (l : Layout) (es : List Event) → All GaveWithinPosts (schedule l es).callers
all-within l [] = All-nil GaveWithinPosts
all-within l (Enter actor last ∷ es) = All-push GaveWithinPosts (schedule l es).callers (new_caller (length (schedule l es).callers) actor last) (all-within l es) (omega arith)
all-within l (Acts k c ∷ es) = commanded-within k c (slice_get (schedule l es).callers k) (schedule l es) refl (all-within l es)
all-within l (Deliver k a b ∷ es) = delivered-within k a b (slice_get (schedule l es).callers k) (schedule l es) refl (all-within l es)
all-within l (See k clock ∷ es) = shown-within k clock (slice_get (schedule l es).callers k) (schedule l es) refl (all-within l es)

posts-call : (c : Command) → is_call c ≡ true → is_post c ≡ true
posts-call (commands.Call q back body) h = refl
posts-call (commands.Make a n) h = absurd (false≢true h)
posts-call (commands.Send d b) h = refl
posts-call commands.Retry h = refl
posts-call commands.Cancel h = absurd (false≢true h)
posts-call (commands.Reply b) h = refl
posts-call (commands.Take q) h = absurd (false≢true h)
posts-call (commands.Move q a) h = absurd (false≢true h)
posts-call (commands.GroupMake s) h = absurd (false≢true h)
posts-call (commands.Join g q) h = absurd (false≢true h)
posts-call (commands.Leave g q) h = absurd (false≢true h)
posts-call (commands.Delete q) h = absurd (false≢true h)

-- so a caller that may call has a number left for it
pub call-left : (l : Layout) (n : NetState) (s : IsScheduled l n) (k : ℕ) (x : Seated) (c : Command) → slice_get n.callers k ≡ Some x → may_give (Some x) c ≡ true → is_call c ≡ true → x.client.given < 4294967295
call-left l n s k x c found may call =
    let within : x.client.given ≤ x.posts = among (schedule l s.events).callers k x (ap (λ (m : NetState). slice_get m.callers k) (sym s.is) ∙ found) (all-within l s.events) in
    let left = (and_parts (meets_conditions c && has_body_in_limit c) (has_number_left x c) may).1 in
    let less = ltb-true x.posts 4294967295 (ap (λ b. not b || nat_lt x.posts 4294967295) (sym (posts-call c call)) ∙ left) in
    omega (arith, within, less)
