-- The law of the promises.
use Rattle.std.specs.Prelude.{◌≡◌, true, List}
use Rattle.chorus_ui.specs.declared.layout.Layout.{Layout}
use Rattle.chorus_ui.specs.Layout.{IsLayout}
use Rattle.chorus_entry.specs.declared.entry.Entry.{Entry}
use Rattle.chorus_world.specs.Steps.{is_legal}
use Rattle.judge_promises.specs.Breaches.{keeps_promises}
use Rattle.judge_promises.specs.Terms.{read}

-- a legal list keeps the promises, and so does what is read of it, without its other acts
abbrev pub LegalListsKeepThePromises : Type 0
LegalListsKeepThePromises =
    (l : Layout) (past : List Entry) → IsLayout l → is_legal l past ≡ true →
    (keeps_promises l past ≡ true) × (keeps_promises l (read past) ≡ true)
