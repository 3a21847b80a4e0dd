-- The chunks in which the input comes do not matter: each line is put together whole, wherever it was cut (`cut_anywhere`).
use mathlib.Core.Path.{◌≡◌, ap}
use mathlib.Core.List.{List}
use Prim.Native.Nat.{ℕ, ◌≤◌}
use lib.ListN.{length}
use Rattle.agreement.specs.Agreement.{fresh_units}
use Rattle.lines.specs.Chunks.{whole}
use Rattle.transcript.specs.Program.{output_from, output_of, output_of_chunks}
use Rattle.lines.proofs.Cuts.{cut_anywhere}

-- for every way to cut the input into chunks, and every line buffer of at least 128 bytes
pub chunks_same : (buffer : List ℕ) → 128 ≤ length buffer → (chunks : List (List ℕ))
    → output_of_chunks buffer chunks ≡ output_of (whole chunks)
unfolding output_of
chunks_same buffer big chunks = ap (output_from 0 fresh_units) (cut_anywhere buffer big chunks)
