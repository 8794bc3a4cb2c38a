-- A band's blocks, row by row: `Laws.BandRows` says that these are t800's.
use Rattle.std.specs.Prelude.{ℕ, ◌+◌, List, [], ◌∷◌}
use Rattle.t800.specs.declared.Band.{Band}
use Rattle.t800.specs.State.{Block, band_length}
use Rattle.t2_write_block.specs.Runs.{Running, code_all}
use Rattle.t2_write_new_rows.specs.Setting.{set_all}
use Rattle.tcd_places.specs.Places.{band_blocks}

-- blocks that are new set, the first of them having count number i
abbrev pub new_set : ℕ → List ℕ → List Block → ℕ → Running → Running
new_set t cs ks i s = record { words = set_all t cs ks i s.words; output = s.output; block = s.block; pass = s.pass }

-- a band in layer t: its new blocks are set, then all are coded
unfoldable pub code_band : ℕ → List ℕ → List ℕ → List ℕ → ℕ → Band → Running → Running
code_band t cs ls ms start b s = code_all t cs ls ms (band_blocks start b) (new_set t cs (band_blocks start b) s.block s)

-- the bands whose words begin at `start`, one after another
unfoldable pub code_bands : ℕ → List ℕ → List ℕ → List ℕ → ℕ → List Band → Running → Running
code_bands t cs ls ms start [] s = s
code_bands t cs ls ms start (b ∷ bs) s = code_bands t cs ls ms (start + band_length b) bs (code_band t cs ls ms start b s)
