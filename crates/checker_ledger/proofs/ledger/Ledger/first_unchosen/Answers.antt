use Rattle.std.proofs.Common.{◌≡◌, ap, ◌∙◌, reverse, find, filter, None}
use Rattle.std.specs.Prelude.{unwrap_or}
use Rattle.chorus_ui.specs.Layout.{group_place}
use Rattle.chorus_world.specs.Groups.{first_unchosen, posts_to}
use Rattle.chorus_world.specs.Steps.{State}
use Rattle.chorus_world.specs.Views.{at}
use Rattle.checker_rows.specs.Lines.{line_in, is_open}
use Rattle.checker_ledger.specs.Asks.{is_unchosen}
use Rattle.checker_ledger.specs.Worlds.{next_to}
use Rattle.checker_rows.specs.declared.keys.LineKey.{LineKey}
use Rattle.checker_rows.specs.declared.message_lines.End.TheVariants.{Chosen}
use Rattle.checker_ledger.proofs.ChosenLemmas.{asked_first, choosing}
use Rattle.checker_ledger.proofs.ReadLemmas.{asked_is}
use Rattle.checker_ledger.proofs.TieLemmas.{chosen_open}
use Rattle.checker_ledger.proofs.ledger.Ledger.first_unchosen.Goals as goal

pub returns : goal.returns
returns c =
    let past = reverse c.self.inside.entries.items in
    let l = c.self.inside.layout in
    let t = c.self.inside.tables in
    let f = c.self.invariant.1 in
    let g = c.args.group in
    let from = c.args.from in
    let k : LineKey = record { place = from; name = g; route = None } in
    let xs = line_in t.asks k in
    let here : choosing l g from ≡ c.args.place = ap (λ (w : State). unwrap_or (group_place w.layout g) from) c.self.view_is ∙ c.requires in
    c.first_open.ensures
    ∙ (ap (λ j. find (is_open t.messages Chosen) (line_in t.asks j)) c.asked_line-line.ensures
    ∙ (ap (λ test. find test xs) (chosen_open l past t f)
    ∙ (asked_first l past g from xs c.self.invariant.0 (f.asks k ∙ ap (filter (is_unchosen past)) (asked_is past from g))
    ∙ (ap (λ p. first_unchosen (at p past) (posts_to g (at from past))) here
    ∙ ap (λ (w : State). next_to w g from c.args.place) c.self.view_is))))
