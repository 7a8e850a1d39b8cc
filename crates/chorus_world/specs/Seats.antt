-- Seats: what the entries of one caller say of its posts, its outstanding call and its hand.
use Rattle.std.specs.Prelude.{ℕ, ◌+◌, ◌==◌, max, Bool, true, ◌&&◌, if◌then◌else◌, List, [], ◌∷◌, Option, Some, None}
use Rattle.std.specs.Option.{option_or}
use Rattle.chorus_ui.specs.declared.ui.Ui.{Ui}
use Rattle.chorus_ui.specs.Name.{same_ui}
use Rattle.chorus_entry.specs.declared.entry.Entry.{Entry}
use Rattle.chorus_entry.specs.declared.tag.Tag.{Tag}
use Rattle.chorus_entry.specs.declared.tag.Tag.TheVariants.{Request, Reply}
use Rattle.chorus_entry.specs.declared.dest.Dest.{Dest}
use Rattle.chorus_entry.specs.declared.dest.Dest.TheVariants.{Port}
use Rattle.chorus_entry.specs.declared.act.Act.{Act}
use Rattle.chorus_entry.specs.declared.act.Act.TheVariants.{Post, Take, Done, Cancel}
use Rattle.chorus_entry.specs.Body.{same_body}
use Rattle.chorus_entry.specs.declared.hand.Hand.{Hand}
use Rattle.chorus_world.specs.Posts.{tag_of}

-- how many messages it posted
abbrev pub posts_after : Act → ℕ → ℕ
posts_after (Post m d) n = n + 1
posts_after _ n = n

abbrev pub posts : List Entry → ℕ
posts [] = 0
posts (e ∷ mine) = posts_after e.act (posts mine)

-- it posted at the place p alone
abbrev pub stays_at : ℕ → ℕ → Act → Bool
stays_at p q (Post m d) = q == p
stays_at p q _ = true

abbrev pub posts_stay : ℕ → List Entry → Bool
posts_stay p [] = true
posts_stay p (e ∷ mine) = stays_at p e.place e.act && posts_stay p mine

-- the request number that a tag has, or 0
abbrev pub number_in : Tag → ℕ
number_in (Request n back) = n
number_in _ = 0

-- the greatest request number that it posted, or 0
abbrev pub requests_after : Act → ℕ → ℕ
requests_after (Post m d) n = max (number_in m.tag) n
requests_after _ n = n

abbrev pub requests : List Entry → ℕ
requests [] = 0
requests (e ∷ mine) = requests_after e.act (requests mine)

-- its outstanding call: the request number that it posted and that is neither done nor cancelled
abbrev pub call_with : Tag → Option ℕ → Option ℕ
call_with (Request n back) c = Some n
call_with _ c = c

abbrev pub ended : ℕ → Option ℕ → Option ℕ
ended n None = None
ended n (Some m) = if m == n then None else Some m

abbrev pub call_after : Act → Option ℕ → Option ℕ
call_after (Post m d) c = call_with m.tag c
call_after (Done n) c = ended n c
call_after (Cancel n) c = ended n c
call_after _ c = c

abbrev pub call : List Entry → Option ℕ
call [] = None
call (e ∷ mine) = call_after e.act (call mine)

-- a request as it was posted
pub record Call : Type 0 where
  pub port : Ui
  pub back : Ui
  pub body : List ℕ

abbrev pub same_call : Call → Call → Bool
same_call a b = same_ui a.port b.port && same_ui a.back b.back && same_body a.body b.body

abbrev pub call_in : ℕ → Tag → Dest → List ℕ → Option Call
call_in n (Request k back) (Port q) body = if k == n then Some (record { port = q; back = back; body = body }) else None
call_in n _ _ body = None

abbrev pub call_by : ℕ → Act → Option Call
call_by n (Post m d) = call_in n m.tag d m.body
call_by n _ = None

-- its first post of the request number n, which a retry repeats
abbrev pub first_call : ℕ → List Entry → Option Call
first_call n [] = None
first_call n (e ∷ mine) = option_or (first_call n mine) (call_by n e.act)

-- the request that it took last, where it posted no reply since: the client, its number and the port of the reply
abbrev pub same_hand : Hand → Hand → Bool
same_hand a b = (a.client == b.client) && (a.number == b.number) && same_ui a.back b.back

abbrev pub hand_with : ℕ → Tag → Option Hand → Option Hand
hand_with c (Request n back) h = Some (record { client = c; number = n; back = back })
hand_with c _ h = h

abbrev pub hand_without : Tag → Option Hand → Option Hand
hand_without (Reply c n) h = None
hand_without _ h = h

abbrev pub hand_after : List Entry → Act → Option Hand → Option Hand
hand_after past (Take q n x) h = hand_with x.seat (tag_of x past) h
hand_after past (Post m d) h = hand_without m.tag h
hand_after past _ h = h

abbrev pub hand : List Entry → List Entry → Option Hand
hand past [] = None
hand past (e ∷ mine) = hand_after past e.act (hand past mine)
