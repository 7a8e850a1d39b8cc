-- Printing line by line.
use Rattle.std.proofs.Common.{◌≡◌, ℕ, ◌+◌, ◌<◌, ◌≤◌, List, [], ◌∷◌, ◌++◌, length, get_or, take, drop, map, refl, sym, ap, ◌∙◌, arith, append_assoc, add-one, drop-cons}
use Rattle.std.specs.Prelude.{codes}
use Rattle.std.specs.List.{flat_map}
use Rattle.std.proofs.Math.Seq.{take-suc}
use Rattle.std.proofs.lemmas.List.{length-take-le}
use Rattle.std.proofs.lemmas.List.{append-nil}
use Rattle.std.proofs.lemmas.Grind.{common_steps, flat_map-append}
use Rattle.chorus_ui.specs.declared.ui.Ui.{Ui}
use Rattle.chorus_ui.specs.declared.layout.Layout.{Layout}
use Rattle.chorus_entry.specs.declared.command.Command.{Command}
use Rattle.chorus_scene.specs.declared.scenario.SetupLine.{SetupLine}
use Rattle.chorus_scene.specs.Scene.{Scene}
use Rattle.chorus_scene.specs.Making.{makes, name_said, names_said}
use Rattle.chorus_scene.proofs.Waits.{texts_push}
use Rattle.chorus_scene.specs.Scene.{is_await}
use Rattle.chorus_scene.specs.Print.{said_as, command_texts, version_text, sites_text, said_text, setup_texts, said_texts, script_texts, claim_text, step_text, joined, printed, ended, all_ended}

-- a line more
ended_more : (xs : List (List ℕ)) (y : List ℕ) → all_ended (xs ++ y ∷ []) ≡ all_ended xs ++ (y ++ 10 ∷ [])
ended_more xs y = flat_map-append ended xs (y ∷ []) ∙ ap (λ t. all_ended xs ++ t) (append-nil (ended y))

pub commands_on : (waits start out first : List ℕ) (xs : List Command) (i : ℕ) (x : Command) → i < length xs → x ≡ get_or xs i x → out ≡ start ++ all_ended (first ∷ command_texts waits 0 (take i xs))
    → (out ++ said_as (is_await waits i) x) ++ 10 ∷ [] ≡ start ++ all_ended (first ∷ command_texts waits 0 (take (i + 1) xs))
commands_on waits start out first xs i x lt is so_far =
    let text = said_as (is_await waits i) x in
    let at : 0 + length (take i xs) ≡ i = omega (arith, length-take-le i xs (omega (arith, lt))) in
    let more : take (i + 1) xs ≡ take i xs ++ x ∷ [] = rw (add-one i) (take-suc xs i x lt) ∙ ap (λ y. take i xs ++ y ∷ []) (sym is) in
    let texts : command_texts waits 0 (take (i + 1) xs) ≡ command_texts waits 0 (take i xs) ++ text ∷ [] = ap (command_texts waits 0) more ∙ texts_push waits waits 0 (take i xs) x (λ j k. refl)
    ∙ ap (λ k. command_texts waits 0 (take i xs) ++ said_as (is_await waits k) x ∷ []) at in
    ap (λ o. (o ++ text) ++ 10 ∷ []) so_far
    ∙ append_assoc (start ++ all_ended (first ∷ command_texts waits 0 (take i xs))) text (10 ∷ [])
    ∙ append_assoc start (all_ended (first ∷ command_texts waits 0 (take i xs))) (text ++ 10 ∷ [])
    ∙ ap (λ t. start ++ t) (sym (ended_more (first ∷ command_texts waits 0 (take i xs)) text) ∙ ap (λ ts. all_ended (first ∷ ts)) (sym texts))

pub setup_on : (out : List ℕ) (total : List ℕ) (names : List Ui) (lines : List SetupLine) (i : ℕ) (line : SetupLine) (n : Ui) → i < length names → i < length lines → line ≡ get_or lines i line → n ≡ get_or names i n
    → out ++ all_ended (said_texts (drop i names) (drop i lines)) ≡ total → ((out ++ said_text n line) ++ 10 ∷ []) ++ all_ended (said_texts (drop (i + 1) names) (drop (i + 1) lines)) ≡ total
setup_on out total names lines i line n a b line-is name-is so_far =
    let d : drop i lines ≡ line ∷ drop (i + 1) lines = rw (add-one i) (drop-cons lines i line b) ∙ ap (λ x. x ∷ drop (i + 1) lines) (sym line-is) in
    let e : drop i names ≡ n ∷ drop (i + 1) names = rw (add-one i) (drop-cons names i n a) ∙ ap (λ x. x ∷ drop (i + 1) names) (sym name-is) in
    let rest = all_ended (said_texts (drop (i + 1) names) (drop (i + 1) lines)) in
    append_assoc (out ++ said_text n line) (10 ∷ []) rest ∙ append_assoc out (said_text n line) (10 ∷ rest)
    ∙ ap (λ t. out ++ t) (sym (append_assoc (said_text n line) (10 ∷ []) rest))
    ∙ ap (λ ns. out ++ all_ended (said_texts ns (line ∷ drop (i + 1) lines))) (sym e) ∙ ap (λ ls. out ++ all_ended (said_texts (drop i names) ls)) (sym d) ∙ so_far

pub setup_end : (out : List ℕ) (total : List ℕ) (names : List Ui) (lines : List SetupLine) (i : ℕ) → length names ≤ i → out ++ all_ended (said_texts (drop i names) (drop i lines)) ≡ total → out ≡ total
setup_end out total names lines i le so_far =
    let d : drop i names ≡ [] = grind (arith, common_steps) in
    sym (append-nil out) ∙ ap (λ ns. out ++ all_ended (said_texts ns (drop i lines))) (sym d) ∙ so_far

-- the names of a setup are as many as its lines, and say its texts
pub length-names_said : (l : Layout) (made : List Ui) (lines : List SetupLine) → length (names_said l made lines) ≡ length lines
length-names_said l made [] = refl
length-names_said l made (line ∷ lines) = let h = length-names_said l (made ++ makes l made line) lines in omega arith

texts_said : (l : Layout) (made : List Ui) (lines : List SetupLine) → said_texts (names_said l made lines) lines ≡ setup_texts l made lines
texts_said l made [] = refl
texts_said l made (line ∷ lines) = ap (λ ts. said_text (name_said l made line) line ∷ ts) (texts_said l (made ++ makes l made line) lines)

-- lines, and one more without LF
joined_last : (xs : List (List ℕ)) (last : List ℕ) → joined (xs ++ last ∷ []) ≡ all_ended xs ++ last
unfolding joined
joined_last [] last = refl
joined_last (x ∷ []) last = sym (append_assoc x (10 ∷ []) last) ∙ ap (λ t. t ++ last) (sym (append-nil (x ++ 10 ∷ [])))
joined_last (x ∷ y ∷ xs) last =
    ap (λ t. x ++ 10 ∷ t) (joined_last (y ∷ xs) last) ∙ sym (append_assoc x (10 ∷ all_ended (y ∷ xs)) last) ∙ ap (λ t. t ++ last) (sym (append_assoc x (10 ∷ []) (all_ended (y ∷ xs))))

regroup : (s v u c k d e : List ℕ) → (((((s ++ v) ++ u) ++ c) ++ k) ++ d) ++ e ≡ s ++ ((((v ++ (u ++ c)) ++ k) ++ d) ++ e)
regroup s v u c k d e = simp append_assoc

-- the text of a scenario, part by part
pub printed_parts : (c : Scene) (start out : List ℕ) (names : List Ui) → names ≡ names_said c.layout [] c.setup
    → out ≡ ((((start ++ all_ended (version_text c.version ∷ sites_text c.sites ∷ [])) ++ all_ended (said_texts names c.setup)) ++ all_ended (flat_map script_texts c.scripts)) ++ all_ended (map claim_text c.claims)) ++ all_ended (codes "schedule" ∷ map step_text c.schedule)
    → out ++ codes "end" ≡ start ++ printed c
printed_parts c start out names is parts =
    let head = version_text c.version ∷ sites_text c.sites ∷ [] in
    let setup = setup_texts c.layout [] c.setup in
    let scripts = flat_map script_texts c.scripts in
    let claims = map claim_text c.claims in
    let steps = codes "schedule" ∷ map step_text c.schedule in
    let said : said_texts names c.setup ≡ setup = ap (λ ns. said_texts ns c.setup) is ∙ texts_said c.layout [] c.setup in
    ap (λ t. t ++ codes "end") (parts ∙ ap (λ ts. ((((start ++ all_ended head) ++ all_ended ts) ++ all_ended scripts) ++ all_ended claims) ++ all_ended steps) said)
    ∙ regroup start (all_ended head) (all_ended setup) (all_ended scripts) (all_ended claims) (all_ended steps) (codes "end")
    ∙ ap (λ t. start ++ t) (sym (joined_last (((head ++ (setup ++ scripts)) ++ claims) ++ steps) (codes "end")
    ∙ ap (λ t. t ++ codes "end") (flat_map-append ended ((head ++ (setup ++ scripts)) ++ claims) steps
    ∙ ap (λ t. t ++ all_ended steps) (flat_map-append ended (head ++ (setup ++ scripts)) claims
    ∙ ap (λ t. t ++ all_ended claims) (flat_map-append ended head (setup ++ scripts) ∙ ap (λ t. all_ended head ++ t) (flat_map-append ended setup scripts))))))
