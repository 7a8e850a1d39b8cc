use Rattle.std.proofs.Common.{◌≡◌, ◌<◌, refl, map, sym, ap, ◌∙◌, length, length-set, [], ◌∷◌, ◌++◌, get_or, set, List, arith}
use Rattle.std.proofs.lemmas.List.{map-set, get_or-map}
use Rattle.std.specs.Global.{Vec}
use Rattle.chorus_ui.specs.declared.ui.Ui.{Ui}
use Rattle.chorus_scene.proofs.Tables.{member_tables}
use Rattle.chorus_scene.proofs.setup.Setup.push_member.Goals as goal

pub returns-clause-tables : goal.returns-clause-tables
returns-clause-tables c =
    let r = c.requires in
    let s = c.args.self.now in
    let f : Vec Ui → List Ui = λ x. x.items in
    let i = c.list_number.result in
    let x = c.index_mut.result.now in
    let lt : i < length s.members.items = omega (arith, r.tables.lists, c.list_number.ensures.small) in
    let there : get_or (map f s.members.items) i [] ≡ x.items = get_or-map f s.members.items i x [] lt ∙ ap f (sym c.index_mut.ensures.value) in
    member_tables c.args.layout s _ r.tables c.args.group c.args.port r.kind r.made c.in_ok-push.ensures.items c.in_ok-push-2.ensures.items refl
    (map f s.members.items) refl
    (map-set f s.members.items i c.push-3.new.self
    ∙ ap (set (map f s.members.items) i) (c.in_ok-push-3.ensures.items ∙ ap (λ xs. xs ++ c.args.port ∷ []) (sym there))
    ∙ ap (λ j. set (map f s.members.items) j (get_or (map f s.members.items) j [] ++ c.args.port ∷ [])) c.list_number.ensures.value)
    (length-set s.members.items _ _)
