-- How the head of a journal is read: cut at its spaces.
use Rattle.std.specs.Prelude.{ℕ, ◌+◌, ◌-◌, List, length, codes, Option, Some, None, is_some, if◌then◌else◌}
use Rattle.std.specs.Str.{bytes_eq}
use Rattle.chorus_ui.specs.declared.layout.Layout.{Layout}
use Rattle.chorus_ui.specs.Layout.{new_layout}
use Rattle.chorus_show.specs.Reading.{u16_in, u32_in}
use Rattle.chorus_lines.specs.Text.{cut}
use Rattle.judge_heads.specs.declared.heads.Head.{Head}

abbrev pub new_layout_of : Option ℕ → Option ℕ → Option Layout
new_layout_of None t = None
new_layout_of (Some s) None = None
new_layout_of (Some s) (Some t) = new_layout s t

-- the layout of two words
abbrev pub layout_in : List ℕ → List ℕ → Option Layout
layout_in s t = new_layout_of (u16_in s) (u16_in t)

-- the layout that three words say, and how many bytes `journal N` has, where the first is a number of 32 bits
abbrev pub with_word : ℕ → Option Layout → Option (Layout × ℕ)
with_word word None = None
with_word word (Some l) = Some (l, word)

abbrev pub in_words : List ℕ → List ℕ → List ℕ → Option (Layout × ℕ)
in_words n s t = if is_some (u32_in n) then with_word (8 + length n) (layout_in s t) else None

-- of a number, and what is cut behind it
abbrev pub in_layout : List ℕ → List ℕ × Option (List ℕ) → Option (Layout × ℕ)
in_layout n (s, None) = None
in_layout n (s, Some t) = in_words n s t

abbrev pub in_count : List ℕ × Option (List ℕ) → Option (Layout × ℕ)
in_count (n, None) = None
in_count (n, Some text) = in_layout n (cut 32 text)

-- of a line, cut at its first space
abbrev pub in_line : List ℕ × Option (List ℕ) → Option (Layout × ℕ)
in_line (word, None) = None
in_line (word, Some text) = if bytes_eq word (codes "journal") then in_count (cut 32 text) else None

-- and of a text, cut at its first LF, beside how many bytes ` SITES TURNS` has
abbrev pub with_gap : ℕ → Option (Layout × ℕ) → Option Head
with_gap length None = None
with_gap length (Some (l, word)) = Some (record { layout = l; word = word; gap = length - word })

abbrev pub in_text : List ℕ × Option (List ℕ) → Option Head
in_text (line, None) = None
in_text (line, Some rest) = with_gap (length line) (in_line (cut 32 line))

abbrev pub head_in : List ℕ → Option Head
head_in text = in_text (cut 10 text)
