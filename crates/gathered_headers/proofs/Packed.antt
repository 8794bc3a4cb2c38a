-- Unpacking what was packed gives the header bytes again.
use mathlib.Core.Path.{◌≡◌, refl, sym, ap, ◌∙◌}
use mathlib.Core.Logic.{◌≢◌}
use mathlib.Core.Bool.{false}
use mathlib.Core.List.{List, [], ◌∷◌, ◌++◌}
use Prim.Native.Nat.{ℕ, zero, suc, ◌+◌, ◌-◌, ◌*◌, ◌≤◌}
use native.Mathlib.Omega.{arith}
use lib.ListN.{length, get_or, take, drop, length-take, length-drop, length-append, take-append-drop}
use lib.Seq.{take_at, drop_at}
use borrow.Author.Tests.{le-ltb, eq-eqb}
use Rattle.t800.specs.PackedHeaders.{most_bytes, ppt_segment, packed_from, packed, segments_for, Unpacked, bad_segment, unpacked_from, unpacked}
use Rattle.t800_laws.proofs.Laws.Tests.{if-eq, if-ne, if-false, on-eq}

pub no_bytes : (bs : List ℕ) → length bs ≡ 0 → bs ≡ []
no_bytes [] e = refl
no_bytes (b ∷ bs) e = absurd (omega arith)

-- the segment in front of others
module _ (index : ℕ) (bytes later : List ℕ) where
  abbrev whole : List ℕ
  whole = ppt_segment index bytes ++ later

  field_back : get_or whole 2 0 * 256 + get_or whole 3 0 ≡ 3 + length bytes
  unfolding ppt_segment
  field_back = omega arith

  whole_long : length whole ≡ 5 + length bytes + length later
  unfolding ppt_segment
  whole_long = omega (arith, length-append bytes later)

  good : 1 ≤ length bytes → bad_segment index whole ≡ false
  unfolding bad_segment ppt_segment
  good h =
      let f = field_back in
      let n = whole_long in
      rw (
        f,
        le-ltb (length whole) (2 + (3 + length bytes)) (omega arith),
        le-ltb (3 + length bytes) 4 (omega arith),
        eq-eqb index index refl,
      )

  bytes_back : take (3 + length bytes - 3) (drop 5 whole) ≡ bytes
  unfolding ppt_segment
  bytes_back = take_at bytes later (3 + length bytes - 3) (omega arith)

  later_back : drop (2 + (3 + length bytes)) whole ≡ later
  unfolding ppt_segment
  later_back = drop_at (ppt_segment index bytes) later (2 + (3 + length bytes)) (omega arith)

  segment-back : (bound : ℕ) → 1 ≤ length bytes
      → unpacked_from (suc bound) index whole
      ≡ record { refusal = (unpacked_from bound (index + 1) later).refusal; bytes = bytes ++ (unpacked_from bound (index + 1) later).bytes }
  unfolding unpacked_from
  segment-back bound h =
      if-ne (length whole) 0 _ _ (omega (arith, whole_long)) ∙ if-false (bad_segment index whole) _ _ (good h)
      ∙ rw (field_back, later_back, bytes_back)

  with_later : (most : ℕ) (rest : List ℕ) → 1 ≤ length bytes → length whole ≤ most
      → ((n : ℕ) → length later ≤ n → unpacked_from n (index + 1) later ≡ record { refusal = 0; bytes = rest })
      → unpacked_from most index whole ≡ record { refusal = 0; bytes = bytes ++ rest }
  with_later zero rest h l f = absurd (omega (arith, whole_long))
  with_later (suc most) rest h l f =
      segment-back most h
      ∙ ap (λ (u : Unpacked). record { refusal = u.refusal; bytes = bytes ++ u.bytes }) (f most (omega (arith, whole_long)))

none_back : (bound index : ℕ) → unpacked_from bound index [] ≡ record { refusal = 0; bytes = [] }
unfolding unpacked_from
none_back zero index = refl
none_back (suc bound) index = refl

none_packed : (bound index : ℕ) (headers : List ℕ) → length headers ≡ 0 → packed_from bound index headers ≡ []
unfolding packed_from
none_packed zero index headers z = refl
none_packed (suc bound) index headers z = if-eq (length headers) 0 _ _ z

some_packed : (bound index : ℕ) (headers : List ℕ) → length headers ≢ 0
    → packed_from (suc bound) index headers
    ≡ ppt_segment index (take most_bytes headers) ++ packed_from bound (index + 1) (drop most_bytes headers)
unfolding packed_from
some_packed bound index headers n = if-ne (length headers) 0 _ _ n

nothing : (bound most index : ℕ) (headers : List ℕ) → length headers ≡ 0
    → unpacked_from most index (packed_from bound index headers) ≡ record { refusal = 0; bytes = headers }
nothing bound most index headers z =
    ap (unpacked_from most index) (none_packed bound index headers z) ∙ none_back most index
    ∙ ap (λ (bs : List ℕ). record { refusal = 0; bytes = bs }) (sym (no_bytes headers z))

unpacked-from : (bound most index : ℕ) (headers : List ℕ) → length headers ≤ bound → length (packed_from bound index headers) ≤ most
    → unpacked_from most index (packed_from bound index headers) ≡ record { refusal = 0; bytes = headers }
unpacked-from zero most index headers h l = nothing 0 most index headers (omega arith)
unpacked-from (suc bound) most index headers h l =
    let front : List ℕ = take most_bytes headers in
    let later : List ℕ = packed_from bound (index + 1) (drop most_bytes headers) in
    on-eq (length headers) 0 (nothing (suc bound) most index headers)
    (λ n. let e = some_packed bound index headers n in
    ap (unpacked_from most index) e
    ∙ with_later index front later most (drop most_bytes headers) (omega (arith, length-take most_bytes headers)) (rw e at l)
    (λ k g. unpacked-from bound k (index + 1) (drop most_bytes headers) (omega (arith, length-drop most_bytes headers)) g)
    ∙ ap (λ (bs : List ℕ). record { refusal = 0; bytes = bs }) (take-append-drop most_bytes headers))

pub unpacked-packed : (headers : List ℕ) → unpacked (packed headers) ≡ record { refusal = 0; bytes = headers }
unfolding unpacked packed
unpacked-packed headers =
    unpacked-from (length headers) (length (packed_from (length headers) 0 headers)) 0 headers (omega arith) (omega arith)

-- ---- fewer bytes need no more

pub fewer_segments : (m n : ℕ) → m ≤ n → segments_for m ≤ segments_for n
unfolding segments_for
fewer_segments m n h = omega arith

no_bound : (index : ℕ) (headers : List ℕ) → packed_from 0 index headers ≡ []
unfolding packed_from
no_bound index headers = refl

shorter_from : (bound most i j : ℕ) (xs ys : List ℕ) → length xs ≤ length ys → length ys ≤ most
    → length (packed_from bound i xs) ≤ length (packed_from most j ys)
shorter_from zero most i j xs ys h l = omega (arith, ap length (no_bound i xs))
shorter_from (suc bound) zero i j xs ys h l = omega (arith, ap length (none_packed (suc bound) i xs (omega arith)))
shorter_from (suc bound) (suc most) i j xs ys h l =
    on-eq (length xs) 0 (λ z. omega (arith, ap length (none_packed (suc bound) i xs z)))
    (λ n. let a : List ℕ = take most_bytes xs in
    let b : List ℕ = take most_bytes ys in
    let c : List ℕ = drop most_bytes xs in
    let d : List ℕ = drop most_bytes ys in
    let e = length-drop most_bytes xs in
    let f = length-drop most_bytes ys in
    omega (
      arith,
      ap length (some_packed bound i xs n),
      ap length (some_packed most j ys (omega arith)),
      whole_long i a (packed_from bound (i + 1) c),
      whole_long j b (packed_from most (j + 1) d),
      length-take most_bytes xs,
      length-take most_bytes ys,
      shorter_from bound most (i + 1) (j + 1) c d (omega arith) (omega arith),
    ))

pub shorter_packed : (xs ys : List ℕ) → length xs ≤ length ys → length (packed xs) ≤ length (packed ys)
unfolding packed
shorter_packed xs ys h = shorter_from (length xs) (length ys) 0 0 xs ys h (omega arith)
