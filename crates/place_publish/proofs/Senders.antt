-- To which port a message was sent, by the first entries of a journal.
use Rattle.std.proofs.Common.{ℕ, ◌≡◌, ◌+◌, ◌≤◌, List, [], ◌∷◌, ◌++◌, length, take, reverse, slice_get, Option, Some, None, refl, sym, ◌∙◌, ap, arith, append_assoc}
use Rattle.std.specs.Option.{option_or}
use Rattle.std.proofs.lemmas.List.{append-nil, reverse-append}
use Rattle.chorus_ui.specs.declared.ui.Ui.{Ui}
use Rattle.chorus_entry.specs.declared.id.MsgId.{MsgId}
use Rattle.chorus_entry.specs.declared.entry.Entry.{Entry}
use Rattle.chorus_world.specs.declared.place.Sent.{Sent}
use Rattle.chorus_world.specs.Places.{find_sent, sent, sent_by}
use Rattle.chorus_world.proofs.Messages.SentLemmas.{find_sent_append}
use Rattle.place_publish.specs.Lessons.{port_in}
use Rattle.place_publish.proofs.Growing.{one-more, prefix-take, take-prefix, length-take}

sent-append : (newer older : List Entry) → sent (newer ++ older) ≡ sent older ++ sent newer
sent-append [] older = sym (append-nil (sent older))
sent-append (e ∷ newer) older = ap (λ ms. ms ++ sent_by e.act) (sent-append newer older) ∙ append_assoc (sent older) (sent newer) (sent_by e.act)

pub sent-next : (J : List Entry) (i : ℕ) (e : Entry) (x : MsgId) → slice_get J i ≡ Some e → find_sent x (sent (reverse (take i J))) ≡ None
    → find_sent x (sent (reverse (take (i + 1) J))) ≡ find_sent x (sent_by e.act)
sent-next J i e x at none =
    ap (λ es. find_sent x (sent (reverse es))) (one-more J i e at)
    ∙ ap (λ h. find_sent x (sent h)) (reverse-append (take i J) (e ∷ []))
    ∙ find_sent_append x (sent (reverse (take i J))) (sent_by e.act)
    ∙ ap (λ o. option_or o (find_sent x (sent_by e.act))) none

pub port-none : (o : Option Sent) → port_in o ≡ None → o ≡ None
port-none None e = refl
port-none (Some m) e = absurd (cc)

pub sent-further : (J : List Entry) (n k : ℕ) (x : MsgId) (p : Ui) → n ≤ k → k ≤ length J → port_in (find_sent x (sent (reverse (take n J)))) ≡ Some p
    → port_in (find_sent x (sent (reverse (take k J)))) ≡ Some p
sent-further J n k x p le within found =
    let len = length-take n J (omega (arith, le, within)) in
    let more = prefix-take (take n J) J k (take-prefix n J) (omega (arith, le, len)) in
    ap (λ es. port_in (find_sent x (sent (reverse es)))) (sym more.1)
    ∙ ap (λ h. port_in (find_sent x (sent h))) (reverse-append (take n J) more.0)
    ∙ ap (λ ms. port_in (find_sent x ms)) (sent-append (reverse more.0) (reverse (take n J)))
    ∙ ap port_in (find_sent_append x (sent (reverse (take n J))) (sent (reverse more.0)))
    ∙ first (find_sent x (sent (reverse (take n J)))) (find_sent x (sent (reverse more.0))) found
  where
    first : (a b : Option Sent) → port_in a ≡ Some p → port_in (option_or a b) ≡ Some p
    first None b e = absurd (cc)
    first (Some m) b e = e
