-- Where nothing is left to be done, and one case for each part of it where something is.
use Rattle.std.proofs.Common.{suc, ◌≡◌, true, false, List, [], ◌∷◌, length, is_some, refl, ap, arith}
use Rattle.chorus_ui.specs.declared.layout.Layout.{Layout}
use Rattle.chorus_entry.specs.declared.tag.Tag.{Tag}
use Rattle.chorus_entry.specs.declared.dest.Dest.{Dest}
use Rattle.chorus_entry.specs.declared.answer.Answer.TheVariants as A
use Rattle.chorus_entry.specs.declared.act.Act.{Act}
use Rattle.chorus_entry.specs.declared.entry.Entry.{Entry}
use Rattle.chorus_entry.specs.declared.packet.Cargo.{Cargo}
use Rattle.law_network.specs.Quiet.{IsQuiet}
use Rattle.law_network.proofs.Examples.Names.{actor, port, group, msg, mess, entry, going}

abbrev l : Layout
l = record { sites = 2; turns = 1 }

pub nothing-happened : IsQuiet l [] []
nothing-happened = record {
  packets = refl;
  ports = λ q. refl;
  messages = λ p. refl;
  posts = λ x p d e. absurd (cc);
  reports = λ p x answer. refl;
  replies = λ p. refl;
}

-- a packet is left
pub packet-left : IsQuiet l [] ((going 1 2 1 (Cargo.Report (msg 0 1 0) A.NoMember)).packet ∷ []) → ⊥
packet-left h = let left : (going 1 2 1 (Cargo.Report (msg 0 1 0) A.NoMember)).packet ∷ [] ≡ [] = h.packets in absurd (cc)

-- a port is on its way
abbrev departed : List Entry
departed =
    entry 2 1 0 (Act.Depart (port 1 1) 2 (actor 2 1) 1)
    ∷ entry 1 1 0 (Act.Make (port 1 1) (actor 1 1) 4)
    ∷ []

pub port-on-its-way : IsQuiet l departed [] → ⊥
port-on-its-way h = let moves : true ≡ false = h.ports (port 1 1) in absurd (cc)

-- a message is not settled at the place that it was sent from
abbrev sent_only : List Entry
sent_only =
    entry 2 1 0 (Act.Post (mess (msg 0 1 0) Tag.Plain (97 ∷ [])) (Dest.Port (port 1 1)))
    ∷ entry 1 1 0 (Act.Make (port 1 1) (actor 1 1) 4)
    ∷ []

pub message-not-settled : IsQuiet l sent_only [] → ⊥
message-not-settled h = let left : suc 0 ≡ 0 = ap length (h.messages 1) in omega (arith, left)

-- a post to a group has no choice
abbrev posted_only : List Entry
posted_only =
    entry 2 1 0 (Act.Post (mess (msg 0 1 0) Tag.Plain (97 ∷ [])) (Dest.All (group 1 1)))
    ∷ entry 1 1 0 (Act.GroupMake (group 1 1))
    ∷ []

pub post-without-choice : IsQuiet l posted_only [] → ⊥
post-without-choice h = h.posts (msg 0 1 0) 1 (Dest.All (group 1 1)) refl

-- place 2 has not heard that the group had no member
abbrev not_heard : List Entry
not_heard =
    entry 3 1 0 (Act.NoMember (msg 0 1 0) (group 1 1))
    ∷ entry 2 2 0 (Act.Post (mess (msg 0 1 0) Tag.Plain (97 ∷ [])) (Dest.All (group 1 1)))
    ∷ entry 1 1 0 (Act.GroupMake (group 1 1))
    ∷ []

pub report-to-be-heard : IsQuiet l not_heard [] → ⊥
report-to-be-heard h = let heard : true ≡ false = h.reports 2 (msg 0 1 0) A.NoMember in absurd (cc)

-- the journal of place 1 ends with the Take of a reply
abbrev reply_taken : List Entry
reply_taken =
    entry 4 1 0 (Act.Take (port 1 1) 0 (msg 0 1 0))
    ∷ entry 3 1 0 (Act.Accept (msg 0 1 0) (port 1 1) 0)
    ∷ entry 2 1 0 (Act.Post (mess (msg 0 1 0) (Tag.Reply 0 1) (97 ∷ [])) (Dest.Port (port 1 1)))
    ∷ entry 1 1 0 (Act.Make (port 1 1) (actor 1 1) 4)
    ∷ []

pub reply-just-taken : IsQuiet l reply_taken [] → ⊥
reply-just-taken h = let taken : true ≡ false = ap is_some (h.replies 1) in absurd (cc)
