-- A header from its first bit on.
use mathlib.Core.Path.{◌≡◌, refl, sym, subst}
use mathlib.Core.Logic.{◌≢◌}
use mathlib.Core.List.{List, []}
use Prim.Native.Nat.{ℕ}
use Rattle.t800.specs.Bits.{Decoded}
use Rattle.t800.specs.Reports.{body_bytes}
use Rattle.t800.specs.ReadHeader.{HeaderRead}
use Rattle.t800_laws.proofs.Laws.Tests.{if-eq, if-ne}
use Rattle.t2_read_segments.specs.Reading.{BitsIn}
use Rattle.t2_skip_header.specs.declared.Skipped as Header
use Rattle.t2_skip_header.specs.Skipping.{SkipsHeader, whole_header}
use Rattle.t2_skip_packet.specs.Parts.{SkipsFrom, header_from}

module _ (src ws : List ℕ) (first : Decoded) where
  -- what is told of a header h
  record Tells (h : HeaderRead) (vs : List ℕ) (o : Header.Skipped) : Type 0 where
    refuses : o.refusal ≡ h.refusal
    holds : h.refusal ≡ 0 → (vs ≡ h.words) × (o.bio ≡ h.bio) × (o.bytes ≡ body_bytes h.records)

  from_told : (vs : List ℕ) (o : Header.Skipped) → Tells (header_from src ws first) vs o → BitsIn src o.bio → SkipsFrom src ws first vs o
  from_told vs o t b = record { refuses = t.refuses; holds = t.holds; bits = b }

  pub absent-skipped : first.value ≡ 0 → BitsIn src first.bio
      → SkipsFrom src ws first ws (record { bio = first.bio; bytes = 0; refusal = 0 })
  unfolding header_from body_bytes
  absent-skipped z b =
      let o : Header.Skipped = record { bio = first.bio; bytes = 0; refusal = 0 } in
      let h : HeaderRead = record { refusal = 0; words = ws; bio = first.bio; reports = []; records = [] } in
      from_told ws o
      (subst (λ (x : HeaderRead). Tells x ws o) (sym (if-eq first.value 0 h (whole_header src ws first.bio) z))
      (record { refuses = refl; holds = λ _. (refl, refl, refl) })) b

  pub present_skipped : (vs : List ℕ) (o : Header.Skipped) → first.value ≢ 0 → SkipsHeader src ws first.bio vs o
      → SkipsFrom src ws first vs o
  unfolding header_from
  present_skipped vs o n k =
      let h : HeaderRead = record { refusal = 0; words = ws; bio = first.bio; reports = []; records = [] } in
      from_told vs o
      (subst (λ (x : HeaderRead). Tells x vs o) (sym (if-ne first.value 0 h (whole_header src ws first.bio) n))
      (record { refuses = k.refuses; holds = k.holds })) k.bits
