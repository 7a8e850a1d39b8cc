-- When two keys are one, and the number that is hashed of a key.
use Rattle.std.specs.Prelude.{ℕ, ◌+◌, ◌*◌, ◌%◌, ◌^◌, Bool, ◌&&◌, ◌==◌}
use Rattle.std.specs.Option.{option_eq}
use Rattle.chorus_ui.specs.Name.{Name, same_ui}
use Rattle.chorus_ui.specs.Bits.{name_bits}
use Rattle.checker_rows.specs.declared.keys.TheConstants.{BESIDE_STEP}
use Rattle.checker_rows.specs.declared.keys.PortKey.{PortKey}
use Rattle.checker_rows.specs.declared.keys.NameAt.{NameAt}
use Rattle.checker_rows.specs.declared.keys.LineKey.{LineKey}
use Rattle.checker_rows.specs.declared.keys.ClientOf.{ClientOf}

abbrev pub same_port : PortKey → PortKey → Bool
same_port k l = same_ui k.port l.port

abbrev pub same_name_at : NameAt → NameAt → Bool
same_name_at k l = (k.place == l.place) && same_ui k.name l.name

abbrev pub same_line : LineKey → LineKey → Bool
same_line k l = (k.place == l.place) && (same_ui k.name l.name && option_eq same_ui k.route l.route)

abbrev pub same_client : ClientOf → ClientOf → Bool
same_client k l = (k.client == l.client) && same_ui k.port l.port

-- the bits of the name, moved by the number of the place or client beside it; of names with numbers below 2^24, beside
-- numbers below 2^16, no two have the same
abbrev pub hashed_number : Name → ℕ → ℕ
hashed_number u beside = (name_bits u + beside * BESIDE_STEP) % 2 ^ 64
