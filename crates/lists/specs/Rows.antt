-- Lent lists of reports and records as rows of four words, as many as fit.
use Rattle.std.specs.Prelude.{ℕ, ◌+◌, ◌*◌, ◌/◌, cond, List, length, set, ltb}
use Rattle.t800.specs.Reports.{record_width}

-- row n becomes a, b, c, d, if there is one
unfoldable pub put_row : List ℕ → ℕ → ℕ → ℕ → ℕ → ℕ → List ℕ
put_row rows n a b c d =
    let at = record_width * n in
    let put = set (set (set (set rows at a) (at + 1) b) (at + 2) c) (at + 3) d in
    cond (ltb n (length rows / record_width)) put rows

-- a block's report and a segment's record are such rows: their widths are equal
abbrev pub put_report : List ℕ → ℕ → ℕ → ℕ → ℕ → ℕ → List ℕ
put_report reports n inclusion zero_planes planes passes = put_row reports n inclusion zero_planes planes passes

abbrev pub put_record : List ℕ → ℕ → ℕ → ℕ → ℕ → ℕ → List ℕ
put_record records n block opens passes bytes = put_row records n block opens passes bytes
