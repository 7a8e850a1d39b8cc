-- What a message is worth.
use Rattle.std.specs.Prelude.{ℕ, List, unwrap_or}
use Rattle.chorus_ui.specs.declared.ui.Ui.{Ui}
use Rattle.chorus_ui.specs.Decimals.{parse_decimal}
use Rattle.chorus_entry.specs.declared.message.Message.{Message}

-- the number whose decimal the body is, and 0 where it is that of no number of 64 bits
abbrev pub body_value : List ℕ → ℕ
body_value body = unwrap_or (parse_decimal body) 0

-- it stands at each position of each port for the same
abbrev pub message_value : Ui → ℕ → Message → ℕ
message_value q position m = body_value m.body
