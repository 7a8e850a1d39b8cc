-- What a turn says: a command's own act and acts that answer no command, all by the caller.
use Rattle.std.proofs.Common.{ℕ, ◌≡◌, ◌+◌, ◌-◌, true, false, List, [], ◌∷◌, ◌++◌, length, take, Option, refl, sym, ◌∙◌, ap, append_assoc, length-append, arith}
use Rattle.std.specs.List.{All}
use Rattle.std.proofs.lemmas.List.Elements.{All-nil, All-cons}
use Rattle.chorus_entry.specs.declared.entry.Entry.{Entry}
use Rattle.chorus_entry.specs.declared.act.Act.{Act}
use Rattle.chorus_entry.specs.declared.command.Command.{Command}
use Rattle.chorus_entry.specs.declared.packet.Packet.{Packet}
use Rattle.chorus_entry.specs.Act.{is_command_entry}
use Rattle.chorus_calls.specs.Callers.{Seated}
use Rattle.law_machine.specs.PlaceState.{Turn, Change, next_entry, say}
use Rattle.law_machine.specs.Own.{own}
use Rattle.law_machine.specs.PlaceMachine.{act, work}
use Rattle.law_machine.proofs.Machine.Follows.{IsSame}
use Rattle.law_machine.proofs.Machine.Owns.{IsOwn, Sends, is-own}
use Rattle.law_network.specs.Network.{NetState}
use Rattle.law_network.specs.History.{newer, taken_with, taken_on, taken_at, said_in}
use Rattle.law_machine.proofs.Machine.Follows.{act-gives, work-keeps}

-- what was said from the turn t to the turn u, and what a turn with a command or with a packet says
abbrev pub said : Turn → Turn → List Entry
said t u = newer t.place.journal u.place.journal

abbrev pub said_with : Command → Option Seated → NetState → List Entry
said_with c o n = said_in (taken_with c o n)

abbrev pub said_on : ℕ → Seated → Option Packet → NetState → List Entry
said_on b caller o n = said_in (taken_on b caller o n)

abbrev pub said_at : ℕ → ℕ → Option Seated → NetState → List Entry
said_at a b o n = said_in (taken_at a b o n)

-- the turn has these newer entries behind `base`
pub record Goes (k : ℕ) (base : List Entry) (t : Turn) : Type 0 where
  pub newer : List Entry
  pub journal : t.place.journal ≡ newer ++ base
  pub seats : All (λ (e : Entry). e.seat ≡ k) newer
  pub follow : All (λ (e : Entry). is_command_entry e.act ≡ false) newer
  pub seat : t.caller.seat ≡ k

goes-on : (k : ℕ) (base : List Entry) (a : Act) (c : Change) (t : Turn) → is_command_entry a ≡ false → IsSame c.caller t.caller → Goes k base t → Goes k base (say a c t)
goes-on k base a c t n same g =
    record {
      newer = next_entry a t ∷ g.newer;
      journal = ap (λ es. next_entry a t ∷ es) g.journal;
      seats = All-cons (λ (e : Entry). e.seat ≡ k) (next_entry a t) g.newer g.seat g.seats;
      follow = All-cons (λ (e : Entry). is_command_entry e.act ≡ false) (next_entry a t) g.newer n g.follow;
      seat = same.seat ∙ g.seat;
    }

starts : (k : ℕ) (base : List Entry) (t : Turn) → t.place.journal ≡ base → t.caller.seat ≡ k → Goes k base t
starts k base t e s =
    record {
      newer = [];
      journal = e;
      seats = All-nil (λ (e : Entry). e.seat ≡ k);
      follow = All-nil (λ (e : Entry). is_command_entry e.act ≡ false);
      seat = s;
    }

pub act-goes : (c : Command) (t : Turn) → Goes t.caller.seat (next_entry (own c t) t ∷ t.place.journal) (act c t)
act-goes c t =
    let base = next_entry (own c t) t ∷ t.place.journal in
    act-gives (Goes t.caller.seat base) (goes-on t.caller.seat base) t c (λ x same. starts t.caller.seat base (say (own c t) x t) refl same.seat)

pub work-goes : (q : Packet) (t : Turn) → Goes t.caller.seat t.place.journal (work q t)
work-goes q t =
    work-keeps (Goes t.caller.seat t.place.journal) (goes-on t.caller.seat t.place.journal) q t (starts t.caller.seat t.place.journal t refl refl)

take-front : {X : Type 0} → (xs ys : List X) → take (length xs) (xs ++ ys) ≡ xs
take-front [] ys = refl
take-front (x ∷ xs) ys = ap (λ zs. x ∷ zs) (take-front xs ys)

pub newer-is : (new older : List Entry) → newer older (new ++ older) ≡ new
newer-is new older =
    let long = length-append new older in
    let n : length (new ++ older) - length older ≡ length new = omega (arith, long) in
    ap (λ k. take k (new ++ older)) n ∙ take-front new older

pub said-act : (c : Command) (t : Turn) → said t (act c t) ≡ (act-goes c t).newer ++ next_entry (own c t) t ∷ []
said-act c t =
    let g = act-goes c t in
    let e = next_entry (own c t) t in
    ap (newer t.place.journal) (g.journal ∙ sym (append_assoc g.newer (e ∷ []) t.place.journal)) ∙ newer-is (g.newer ++ e ∷ []) t.place.journal

pub said-work : (q : Packet) (t : Turn) → said t (work q t) ≡ (work-goes q t).newer
said-work q t = let g = work-goes q t in ap (newer t.place.journal) g.journal ∙ newer-is g.newer t.place.journal

-- An own act answers a command.

answers : {t : Turn} {c : Command} {a : Act} → IsOwn t c a → is_command_entry a ≡ true
answers (Sends d body) = refl
answers _ = refl

pub own-is : (c : Command) (t : Turn) → is_command_entry (own c t) ≡ true
own-is c t = answers (is-own c t)
