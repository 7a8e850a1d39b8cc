-- The numbers that definitions cite by their names, and small texts by computation.
use Rattle.std.proofs.Common.{◌≡◌, [], refl, arith, codes}
use Rattle.std.proofs.lemmas.Fmt.{decimal_digit}
use Rattle.chorus_lossy.specs.declared.line.TheConstants.{CHUNK_BYTES, WINDOW}
use Rattle.chorus_lossy.specs.declared.printing.TheConstants.{INPUT_LIMIT}
use Rattle.chorus_lossy.specs.Rounds.{filled, all_sent, emission, released, all_delivered, acknowledged, round, after_rounds}
use Rattle.chorus_lossy.specs.Output.{lossy_text}

a-chunk : CHUNK_BYTES ≡ 64
a-chunk = refl

the-window : WINDOW ≡ 8
the-window = refl

the-limit : INPUT_LIMIT ≡ 4194304
the-limit = refl

nothing-carried : lossy_text 7 [] ≡ codes "\nwire 0 0\n"
unfolding after_rounds
nothing-carried = rw (decimal_digit 0 (omega arith)) refl

hello-carried : lossy_text 7 (codes "hello") ≡ codes "hello\nwire 1 0\n"
unfolding filled emission all_sent released all_delivered acknowledged round after_rounds
hello-carried = rw (decimal_digit 0 (omega arith), decimal_digit 1 (omega arith)) refl
