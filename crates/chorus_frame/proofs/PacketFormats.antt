-- Packets both ways.
use Rattle.std.proofs.Common.{◌≡◌, ◌≢◌, ℕ, zero, suc, ◌^◌, ◌<◌, ◌≤◌, true, false, ◌==◌, nat_le, List, [], ◌++◌, length, Result, Ok, Err, refl, sym, ap, subst, ◌∙◌, arith}
use Rattle.std.proofs.lemmas.Bool.{and_parts, eqb-true, ne_eqb}
use Rattle.std.proofs.lemmas.List.{append-nil, nil_from_length}
use Rattle.chorus_ui.specs.declared.ui.Ui.{Ui}
use Rattle.chorus_ui.specs.declared.kind.Kind.TheVariants as K
use Rattle.chorus_ui.specs.declared.limits.TheConstants.{SITES_LIMIT}
use Rattle.chorus_ui.specs.Name.{IsName}
use Rattle.chorus_entry.specs.declared.dest.Dest.{Dest}
use Rattle.chorus_entry.specs.declared.dest.Dest.TheVariants as D
use Rattle.chorus_entry.specs.declared.packet.Packet.{Packet}
use Rattle.chorus_entry.specs.declared.packet.Cargo.{Cargo}
use Rattle.chorus_entry.specs.declared.packet.Cargo.TheVariants.{Try, Verdict, Transfer, Ask, Report}
use Rattle.chorus_ui.specs.NameKind.{is_port, is_group}
use Rattle.chorus_entry.specs.Ranges.{is_from, is_place_number, is_site_number, is_route, is_demanded_site, is_told, is_reported, is_asked, has_range_of_id, has_ranges_of_answer, has_ranges_of_message, has_ranges_of_cargo, has_ranges}
use Rattle.std.specs.Prelude.{IfOk}
use Rattle.chorus_frame.specs.declared.fault.DecodeFault.{DecodeFault}
use Rattle.chorus_frame.specs.Calls.{Gives}
use Rattle.chorus_frame.specs.Fault.{Range, Trailing}
use Rattle.chorus_frame.specs.Fault as faults
use Rattle.chorus_frame.specs.Numbers.{number, ranged_at}
use Rattle.chorus_frame.specs.Laws.{AreBytes}
use Rattle.chorus_frame.specs.Spelling.{name_field, route_field, only_field, id_fields, message_fields, answer_fields, asked_fields, cargo_fields, kind_of, frame}
use Rattle.chorus_frame.specs.Reading.{code_at, dest_of, is_site_with, is_told_code, is_reported_code, asked_at, try_at, verdict_at, transfer_at, ask_at, report_at, cargo_at, packet_at, packet_of}
use Rattle.chorus_frame.specs.Held.{IsHeldDest, IsHeldCargo, IsHeld}
use Rattle.chorus_frame.proofs.Numbers.{bind_ok, test_ok, ok_is, number-again}
use Rattle.chorus_frame.proofs.Formats.{Taken, IsFormat, step, join, IsTested, number_format, tested_format, assoc2, assoc3, assoc4, assoc5, from_nat_le, both}
use Rattle.chorus_frame.proofs.MessageFormats.{name_format, route_format, only_format, id_format, message_format}
use Rattle.chorus_frame.proofs.AnswerFormats.{place_format, place_fits, up_to_clock_format, up_to_clock_fits, told_setting, reported_setting, answer_format}
use Rattle.chorus_frame.proofs.RecordFormats.{record_format}

-- ---- what is asked

abbrev IsGoodAsked : Dest → Type 0
IsGoodAsked dest = IsHeldDest dest × (is_asked dest ≡ true)

-- the mode, the group and the site of a post to a group are its fields
asked-is : (mode : ℕ) (group : Ui) (site : ℕ) → 1 ≤ mode → mode ≤ 3 → IsName group → is_group group ≡ true → is_site_with mode site ≡ true → (number 1 mode ++ name_field group ++ number 2 site ≡ asked_fields (dest_of mode group site)) × IsGoodAsked (dest_of mode group site)
asked-is zero group site low high name kind fit = absurd (omega arith)
asked-is (suc zero) group site low high name kind fit = (ap (λ (n : ℕ). number 1 1 ++ name_field group ++ number 2 n) (eqb-true site 0 fit), (name, kind))
asked-is (suc (suc zero)) group site low high name kind fit = (ap (λ (n : ℕ). number 1 2 ++ name_field group ++ number 2 n) (eqb-true site 0 fit), (name, kind))
asked-is (suc (suc (suc zero))) group site low high name kind fit = (refl, (name, both _ _ kind fit))
asked-is (suc (suc (suc (suc mode)))) group site low high name kind fit = absurd (omega arith)

mode_format : IsFormat ℕ (IsTested 1 (is_from 1 3)) (number 1) (code_at (is_from 1 3))
mode_format = tested_format 1 (is_from 1 3) faults.Kind

site_format : (mode : ℕ) → IsFormat ℕ (IsTested 2 (is_site_with mode)) (number 2) (ranged_at 2 (is_site_with mode))
site_format mode = tested_format 2 (is_site_with mode) Range

asked-takes : (bytes : List ℕ) (x : Dest) (rest : List ℕ) → AreBytes bytes → asked_at bytes ≡ Ok (x, rest) → Taken bytes (asked_fields x) rest × IsGoodAsked x
unfolding asked_at
asked-takes bytes x rest are e =
    let a = step mode_format _ bytes (x, rest) are e in
    let b = step (name_format K.Group) _ a.rest (x, rest) a.taken.rest_bytes a.on in
    let c = step (site_format a.value) _ b.rest (x, rest) b.taken.rest_bytes b.on in
    let p = and_parts (nat_le 1 a.value) (nat_le a.value 3) a.fit.1 in
    let is = asked-is a.value b.value c.value (from_nat_le 1 a.value p.0) (from_nat_le a.value 3 p.1) b.fit.0 b.fit.1 c.fit.1 in
    let made : Dest × List ℕ = (dest_of a.value b.value c.value, c.rest) in
    let taken = join (join a.taken b.taken) c.taken in
    subst (λ (p : Dest × List ℕ). Taken bytes (asked_fields p.0) p.1 × IsGoodAsked p.0) (ok_is made (x, rest) c.on) (subst (λ (text : List ℕ). Taken bytes text c.rest) is.0 taken, is.1)

asked-parts : (mode : ℕ) (group : Ui) (site : ℕ) (rest : List ℕ) → is_from 1 3 mode ≡ true → mode < 256 ^ 1 → IsName group → is_group group ≡ true → is_site_with mode site ≡ true → site < 256 ^ 2 → asked_at (number 1 mode ++ name_field group ++ number 2 site ++ rest) ≡ Ok (dest_of mode group site, rest)
unfolding asked_at
asked-parts mode group site rest is_mode small name kind fit low =
    ap asked_at (assoc3 (number 1 mode) (name_field group) (number 2 site) rest)
    ∙ rw (mode_format.again mode (name_field group ++ (number 2 site ++ rest)) (small, is_mode), (name_format K.Group).again group (number 2 site ++ rest) (name, kind), (site_format mode).again site rest (low, fit)) refl

asked-again : (x : Dest) (rest : List ℕ) → IsGoodAsked x → asked_at (asked_fields x ++ rest) ≡ Ok (x, rest)
asked-again (D.Port port) rest fit = let e = fit.1 in absurd (cc)
asked-again (D.All group) rest fit = asked-parts 1 group 0 rest refl (omega arith) fit.0 fit.1 refl (omega arith)
asked-again (D.One group) rest fit = asked-parts 2 group 0 rest refl (omega arith) fit.0 fit.1 refl (omega arith)
asked-again (D.OneAt group site) rest fit =
    let p = and_parts (is_group group) (is_site_number site) fit.1 in
    let q = and_parts (nat_le 1 site) (nat_le site SITES_LIMIT) p.1 in
    let high = from_nat_le site SITES_LIMIT q.1 in
    asked-parts 3 group site rest refl (omega arith) fit.0 p.0 p.1 (omega arith)

asked_format : IsFormat Dest IsGoodAsked asked_fields asked_at
asked_format = record { takes = asked-takes; again = asked-again }

-- ---- cargo

abbrev IsGoodCargo : ℕ → Cargo → Type 0
IsGoodCargo clock x = IsHeldCargo x × (has_ranges_of_cargo clock x ≡ true)

-- what was taken is this cargo, of this kind
abbrev IsCargo : ℕ → ℕ → List ℕ → Cargo × List ℕ → Type 0
IsCargo clock n bytes p = Taken bytes (cargo_fields p.0) p.1 × IsGoodCargo clock p.0 × (kind_of p.0 ≡ n)

try-takes : (clock : ℕ) (bytes : List ℕ) (x : Cargo) (rest : List ℕ) → AreBytes bytes → try_at clock bytes ≡ Ok (x, rest) → IsCargo clock 1 bytes (x, rest)
unfolding try_at
try-takes clock bytes x rest are e =
    let a = step route_format _ bytes (x, rest) are e in
    let b = step only_format _ a.rest (x, rest) a.taken.rest_bytes a.on in
    let c = step (up_to_clock_format clock) _ b.rest (x, rest) b.taken.rest_bytes b.on in
    let d = step (name_format K.Port) _ c.rest (x, rest) c.taken.rest_bytes c.on in
    let f = step message_format _ d.rest (x, rest) d.taken.rest_bytes d.on in
    let made : Cargo × List ℕ = (Try f.value d.value a.value b.value c.value, f.rest) in
    let taken = join (join (join (join a.taken b.taken) c.taken) d.taken) f.taken in
    let ranges = both _ _ (both _ _ (both _ _ (both _ _ a.fit.1 b.fit) c.fit.1) d.fit.1) f.fit.1 in
    subst (IsCargo clock 1 bytes) (ok_is made (x, rest) f.on) (taken, ((a.fit.0, d.fit.0, f.fit.0), ranges), refl)

verdict-takes : (clock : ℕ) → clock < 2 ^ 64 → (bytes : List ℕ) (x : Cargo) (rest : List ℕ) → AreBytes bytes → verdict_at clock bytes ≡ Ok (x, rest) → IsCargo clock 2 bytes (x, rest)
unfolding verdict_at
verdict-takes clock held bytes x rest are e =
    let a = step id_format _ bytes (x, rest) are e in
    let b = step (name_format K.Port) _ a.rest (x, rest) a.taken.rest_bytes a.on in
    let c = step route_format _ b.rest (x, rest) b.taken.rest_bytes b.on in
    let d = step (answer_format is_told is_told_code told_setting clock held) _ c.rest (x, rest) c.taken.rest_bytes c.on in
    let made : Cargo × List ℕ = (Verdict a.value b.value c.value d.value, d.rest) in
    let taken = join (join (join a.taken b.taken) c.taken) d.taken in
    let ranges = both _ _ (both _ _ (both _ _ (both _ _ a.fit.1 b.fit.1) c.fit.1) d.fit.0) d.fit.1 in
    subst (IsCargo clock 2 bytes) (ok_is made (x, rest) d.on) (taken, ((a.fit.0, b.fit.0, c.fit.0), ranges), refl)

transfer-takes : (clock : ℕ) → clock < 2 ^ 64 → (bytes : List ℕ) (x : Cargo) (rest : List ℕ) → AreBytes bytes → transfer_at clock bytes ≡ Ok (x, rest) → IsCargo clock 3 bytes (x, rest)
unfolding transfer_at
transfer-takes clock held bytes x rest are e =
    let a = step (record_format clock held) _ bytes (x, rest) are e in
    let made : Cargo × List ℕ = (Transfer a.value, a.rest) in
    subst (IsCargo clock 3 bytes) (ok_is made (x, rest) a.on) (a.taken, a.fit, refl)

ask-takes : (clock : ℕ) (bytes : List ℕ) (x : Cargo) (rest : List ℕ) → AreBytes bytes → ask_at bytes ≡ Ok (x, rest) → IsCargo clock 4 bytes (x, rest)
unfolding ask_at
ask-takes clock bytes x rest are e =
    let a = step asked_format _ bytes (x, rest) are e in
    let b = step message_format _ a.rest (x, rest) a.taken.rest_bytes a.on in
    let made : Cargo × List ℕ = (Ask b.value a.value, b.rest) in
    subst (IsCargo clock 4 bytes) (ok_is made (x, rest) b.on) (join a.taken b.taken, ((a.fit.0, b.fit.0), both _ _ a.fit.1 b.fit.1), refl)

report-takes : (clock : ℕ) → clock < 2 ^ 64 → (bytes : List ℕ) (x : Cargo) (rest : List ℕ) → AreBytes bytes → report_at clock bytes ≡ Ok (x, rest) → IsCargo clock 5 bytes (x, rest)
unfolding report_at
report-takes clock held bytes x rest are e =
    let a = step id_format _ bytes (x, rest) are e in
    let b = step (answer_format is_reported is_reported_code reported_setting clock held) _ a.rest (x, rest) a.taken.rest_bytes a.on in
    let made : Cargo × List ℕ = (Report a.value b.value, b.rest) in
    subst (IsCargo clock 5 bytes) (ok_is made (x, rest) b.on) (join a.taken b.taken, (a.fit.0, both _ _ (both _ _ a.fit.1 b.fit.0) b.fit.1), refl)

cargo-takes : (kind clock : ℕ) → clock < 2 ^ 64 → 1 ≤ kind → kind ≤ 5 → (bytes : List ℕ) (x : Cargo) (rest : List ℕ) → AreBytes bytes → cargo_at kind clock bytes ≡ Ok (x, rest) → IsCargo clock kind bytes (x, rest)
unfolding cargo_at
cargo-takes zero clock held low high bytes x rest are e = absurd (omega arith)
cargo-takes (suc zero) clock held low high bytes x rest are e = try-takes clock bytes x rest are e
cargo-takes (suc (suc zero)) clock held low high bytes x rest are e = verdict-takes clock held bytes x rest are e
cargo-takes (suc (suc (suc zero))) clock held low high bytes x rest are e = transfer-takes clock held bytes x rest are e
cargo-takes (suc (suc (suc (suc zero)))) clock held low high bytes x rest are e = ask-takes clock bytes x rest are e
cargo-takes (suc (suc (suc (suc (suc zero))))) clock held low high bytes x rest are e = report-takes clock held bytes x rest are e
cargo-takes (suc (suc (suc (suc (suc (suc kind)))))) clock held low high bytes x rest are e = absurd (omega arith)

cargo-again : (clock : ℕ) → clock < 2 ^ 64 → (x : Cargo) (rest : List ℕ) → IsGoodCargo clock x → cargo_at (kind_of x) clock (cargo_fields x ++ rest) ≡ Ok (x, rest)
unfolding cargo_at try_at verdict_at transfer_at ask_at report_at
cargo-again clock held (Try message port route only hop) rest fit =
    let p4 = and_parts _ (has_ranges_of_message message) fit.1 in
    let p3 = and_parts _ (is_port port) p4.0 in
    let p2 = and_parts _ (nat_le hop clock) p3.0 in
    let p1 = and_parts (is_route route) (is_demanded_site only) p2.0 in
    ap (try_at clock) (assoc5 (route_field route) (only_field only) (number 8 hop) (name_field port) (message_fields message) rest)
    ∙ rw (
      route_format.again route (only_field only ++ (number 8 hop ++ (name_field port ++ (message_fields message ++ rest)))) (fit.0.0, p1.0),
      only_format.again only (number 8 hop ++ (name_field port ++ (message_fields message ++ rest))) p1.1,
      (up_to_clock_format clock).again hop (name_field port ++ (message_fields message ++ rest)) (up_to_clock_fits clock hop held p2.1),
      (name_format K.Port).again port (message_fields message ++ rest) (fit.0.1, p3.1),
      message_format.again message rest (fit.0.2, p4.1),
    ) refl
cargo-again clock held (Verdict id port route answer) rest fit =
    let p4 = and_parts _ (has_ranges_of_answer clock answer) fit.1 in
    let p3 = and_parts _ (is_told answer) p4.0 in
    let p2 = and_parts _ (is_route route) p3.0 in
    let p1 = and_parts (has_range_of_id id) (is_port port) p2.0 in
    ap (verdict_at clock) (assoc4 (id_fields id) (name_field port) (route_field route) (answer_fields answer) rest)
    ∙ rw (
      id_format.again id (name_field port ++ (route_field route ++ (answer_fields answer ++ rest))) (fit.0.0, p1.0),
      (name_format K.Port).again port (route_field route ++ (answer_fields answer ++ rest)) (fit.0.1, p1.1),
      route_format.again route (answer_fields answer ++ rest) (fit.0.2, p2.1),
      (answer_format is_told is_told_code told_setting clock held).again answer rest (p3.1, p4.1),
    ) refl
cargo-again clock held (Transfer port) rest fit = rw ((record_format clock held).again port rest fit) refl
cargo-again clock held (Ask message dest) rest fit =
    let p = and_parts (is_asked dest) (has_ranges_of_message message) fit.1 in
    ap ask_at (assoc2 (asked_fields dest) (message_fields message) rest)
    ∙ rw (asked_format.again dest (message_fields message ++ rest) (fit.0.0, p.0), message_format.again message rest (fit.0.1, p.1)) refl
cargo-again clock held (Report id answer) rest fit =
    let p = and_parts _ (has_ranges_of_answer clock answer) fit.1 in
    let q = and_parts (has_range_of_id id) (is_reported answer) p.0 in
    ap (report_at clock) (assoc2 (id_fields id) (answer_fields answer) rest)
    ∙ rw (id_format.again id (answer_fields answer ++ rest) (fit.0, q.0), (answer_format is_reported is_reported_code reported_setting clock held).again answer rest (q.1, p.1)) refl

-- ---- packets

kind_format : IsFormat ℕ (IsTested 1 (is_from 1 5)) (number 1) (code_at (is_from 1 5))
kind_format = tested_format 1 (is_from 1 5) faults.Kind

abbrev IsGoodPacket : Packet → Type 0
IsGoodPacket packet = IsHeld packet × (has_ranges packet ≡ true)

packet-takes : (bytes : List ℕ) (x : Packet) (rest : List ℕ) → AreBytes bytes → packet_at bytes ≡ Ok (x, rest) → Taken bytes (frame x) rest × IsGoodPacket x
unfolding packet_at
packet-takes bytes x rest are e =
    let a = step kind_format _ bytes (x, rest) are e in
    let b = step (number_format 8) _ a.rest (x, rest) a.taken.rest_bytes a.on in
    let c = step place_format _ b.rest (x, rest) b.taken.rest_bytes b.on in
    let d = bind_ok (cargo_at a.value b.value c.rest) _ (x, rest) c.on in
    let p = and_parts (nat_le 1 a.value) (nat_le a.value 5) a.fit.1 in
    let cargo = cargo-takes a.value b.value b.fit (from_nat_le 1 a.value p.0) (from_nat_le a.value 5 p.1) c.rest d.0.0 d.0.1 c.taken.rest_bytes d.1 in
    let made : Packet × List ℕ = (record { clock = b.value; from = c.value; cargo = d.0.0 }, d.0.1) in
    let taken = join (join (join a.taken b.taken) c.taken) cargo.0 in
    let kinded = subst (λ (n : ℕ). Taken bytes (number 1 n ++ number 8 b.value ++ number 2 c.value ++ cargo_fields d.0.0) d.0.1) (sym cargo.2) taken in
    subst (λ (p : Packet × List ℕ). Taken bytes (frame p.0) p.1 × IsGoodPacket p.0) (ok_is made (x, rest) d.2) (kinded, ((b.fit, cargo.1.0), both _ _ c.fit.1 cargo.1.1))

kind_of-fits : (x : Cargo) → IsTested 1 (is_from 1 5) (kind_of x)
kind_of-fits (Try message port route only hop) = (omega arith, refl)
kind_of-fits (Verdict id port route answer) = (omega arith, refl)
kind_of-fits (Transfer port) = (omega arith, refl)
kind_of-fits (Ask message dest) = (omega arith, refl)
kind_of-fits (Report id answer) = (omega arith, refl)

pub packet-again : (x : Packet) (rest : List ℕ) → IsHeld x → has_ranges x ≡ true → packet_at (frame x ++ rest) ≡ Ok (x, rest)
unfolding packet_at
packet-again x rest held ranges =
    let p = and_parts (is_place_number x.from) (has_ranges_of_cargo x.clock x.cargo) ranges in
    ap packet_at (assoc4 (number 1 (kind_of x.cargo)) (number 8 x.clock) (number 2 x.from) (cargo_fields x.cargo) rest)
    ∙ rw (
      kind_format.again (kind_of x.cargo) (number 8 x.clock ++ (number 2 x.from ++ (cargo_fields x.cargo ++ rest))) (kind_of-fits x.cargo),
      number-again 8 x.clock (number 2 x.from ++ (cargo_fields x.cargo ++ rest)) held.0,
      place_format.again x.from (cargo_fields x.cargo ++ rest) (place_fits x.from p.0),
      cargo-again x.clock held.0 x.cargo rest (held.1, p.1),
    ) refl

-- ---- all of the bytes

pub whole-takes : (bytes : List ℕ) (x : Packet) → AreBytes bytes → packet_of bytes ≡ Ok x → (bytes ≡ frame x) × IsHeld x × (has_ranges x ≡ true)
unfolding packet_of
whole-takes bytes x are e =
    let b = bind_ok (packet_at bytes) _ x e in
    let t = test_ok (length b.0.1 == 0) Trailing b.0.0 x b.2 in
    let nothing : b.0.1 ≡ [] = nil_from_length b.0.1 (eqb-true _ _ t.0) in
    let taken = packet-takes bytes b.0.0 b.0.1 are b.1 in
    let all : bytes ≡ frame b.0.0 = taken.0.parts ∙ ap (λ (r : List ℕ). frame b.0.0 ++ r) nothing ∙ append-nil (frame b.0.0) in
    subst (λ (y : Packet). (bytes ≡ frame y) × IsHeld y × (has_ranges y ≡ true)) t.1 (all, taken.1.0, taken.1.1)

pub whole-again : (x : Packet) → IsHeld x → has_ranges x ≡ true → packet_of (frame x) ≡ Ok x
unfolding packet_of
whole-again x held ranges =
    let again : packet_at (frame x) ≡ Ok (x, []) = ap packet_at (sym (append-nil (frame x))) ∙ packet-again x [] held ranges in
    rw again refl

pub trails : (x : Packet) (rest : List ℕ) → IsHeld x → has_ranges x ≡ true → rest ≢ [] → packet_of (frame x ++ rest) ≡ Err Trailing
unfolding packet_of
trails x rest held ranges some =
    let more : (length rest == 0) ≡ false = ne_eqb (length rest) 0 (λ h. some (nil_from_length rest h)) in
    rw (packet-again x rest held ranges, more) refl

-- what a call gives of bytes is within the ranges
pub is_ranged : (bytes : List ℕ) (given : Result Packet DecodeFault) → AreBytes bytes → Gives given (packet_of bytes) → IfOk given (λ packet. has_ranges packet ≡ true)
is_ranged bytes (Ok packet) are read = (whole-takes bytes packet are read).2
is_ranged bytes (Err fault) are read = tt
