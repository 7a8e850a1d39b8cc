-- Calls, and what the caller keeps of them. c is the caller.
use Rattle.std.specs.Prelude.{ℕ, List, Option}
use Rattle.std.specs.Option.{option_map}
use Rattle.chorus_ui.specs.declared.ui.Ui.{Ui}
use Rattle.chorus_calls.specs.Clients.{number_of, after_begin, after_cancel}
use Rattle.chorus_calls.specs.Callers.{Seated, with_client}

-- the number of the outstanding call
abbrev pub outstanding_number : Seated → Option ℕ
outstanding_number c = option_map number_of c.client.outstanding

-- with this call as the outstanding one, unless another one is
abbrev pub with_call : Ui → Ui → List ℕ → Seated → Seated
with_call q back body c = with_client c (after_begin c.client q back body)

-- with no outstanding call
abbrev pub without_call : Seated → Seated
without_call c = with_client c (after_cancel c.client)
