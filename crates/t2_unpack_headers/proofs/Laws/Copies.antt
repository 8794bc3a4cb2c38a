-- Header bytes copied segment by segment.
use Prim.Native.Nat.{ℕ, zero, suc, ◌+◌, ◌-◌, ◌<◌, ◌≤◌, min}
use mathlib.Core.Path.{◌≡◌, ap, sym, ◌∙◌, refl}
use mathlib.Core.List.{[], ◌∷◌, ◌++◌, append_assoc, append-nil}
use native.Mathlib.Omega.{arith}
use lib.ListN.{length, take, drop, replicate, length-append, length-drop, drop_of_length-le}
use lib.Seq.{paste, length-paste, take-paste, take-take, take-append-le, drop-append-le, drop-drop, length-take-le}
use Rattle.t800.specs.Base.{Bytes}
use Rattle.t800.specs.PackedHeaders.{unpacked}
use Rattle.t800_laws.proofs.Laws.Tests.{on-lt}
use Rattle.t2_unpack_headers.specs.Segments.{held_at}
use Rattle.t2_unpack_headers.specs.Cursors.{HoldsAt, Sought}
use Rattle.t2_unpack_headers.specs.Windows.{window_of}
use Rattle.t2_unpack_headers.proofs.Laws.Windows.{window_from, window_inside, window_past, window_splits}
use Rattle.t2_unpack_headers.proofs.Laws.Cursors.{first_of_lem, none_behind}

-- the first `done` bytes of the window are in place, and the others are those of the segments from `at` on, but for `skip` ones
pub record Copying (segments : Bytes) (at skip : ℕ) (to : Bytes) (done : ℕ) (window : Bytes) : Type 0 where
  pub bytes : Bytes
  pub here : HoldsAt segments at bytes
  pub skips : at < length segments → skip ≤ held_at segments at
  pub all : take done to ++ window_of bytes skip (length to - done) ≡ window

pub copying_first : (segments to : Bytes) (at before from : ℕ) → Sought segments from (record { at = at; before = before })
    → Copying segments at (from - before) to 0 (window_of (unpacked segments).bytes from (length to))
copying_first segments to at before from s =
    let bytes = (unpacked segments).bytes in
    let n : length to - 0 ≡ length to = omega arith in
    record {
      bytes = drop before bytes;
      here = s.cursor.here;
      skips = λ l. omega (arith, s.inside l);
      all = ap (window_of (drop before bytes) (from - before)) n ∙ window_from bytes before from (length to) s.before;
    }

-- a part of a part
part_of_part : (held skip n : ℕ) (xs : Bytes) → skip + n ≤ held → take n (drop skip (take held xs)) ≡ take n (drop skip xs)
part_of_part held zero n xs h = take-take n held xs (omega arith)
part_of_part zero (suc skip) n xs h = absurd (omega arith)
part_of_part (suc held) (suc skip) n [] h = refl
part_of_part (suc held) (suc skip) n (x ∷ xs) h = part_of_part held skip n xs (omega arith)

-- bytes of a window in the first part, as they stand in the segment
piece_same : (bytes rest : Bytes) (held skip n : ℕ) → bytes ≡ take held rest ++ drop held bytes → length (take held rest) ≡ held
    → skip + n ≤ held → take n (drop skip rest) ≡ window_of bytes skip n
piece_same bytes rest held skip n first long h =
    let part = take held rest in
    let later = drop held bytes in
    let lengths : length bytes ≡ length part + length later = ap length first ∙ length-append part later in
    sym
    (window_inside bytes skip n (omega arith)
    ∙ ap (λ (l : Bytes). take n (drop skip l)) first
    ∙ ap (take n) (drop-append-le skip part later (omega arith))
    ∙ take-append-le n (drop skip part) later (omega (arith, length-drop skip part))
    ∙ part_of_part held skip n rest h)

-- a window that begins in the first part and ends in it, or goes on behind it
goes_on : (bytes : Bytes) (skip held m n : ℕ) → n ≡ min (held - skip) m → skip ≤ held
    → window_of bytes (skip + n) (m - n) ≡ window_of (drop held bytes) 0 (m - n)
unfolding window_of
goes_on bytes skip held m n e h =
    on-lt n m
    (λ l.
    let s : skip + n ≡ held = omega arith in
    ap (λ (k : ℕ). window_of bytes k (m - n)) s)
    (λ l. let z : m - n ≡ 0 = omega arith in rw z)

module _ (segments : Bytes) (at skip : ℕ) (to : Bytes) (done : ℕ) (window : Bytes) (c : Copying segments at skip to done window) where
  pub nothing_left : length segments ≤ at → take done to ++ replicate (length to - done) 0 ≡ window
  nothing_left l =
      let none : c.bytes ≡ [] = none_behind segments at c.bytes c.here l in
      ap (λ (l : Bytes). take done to ++ l)
      (sym (ap (λ (l : Bytes). window_of l skip (length to - done)) none ∙ window_past [] skip (length to - done) (omega arith)))
      ∙ c.all

  pub all_done : length to ≤ done → take done to ++ replicate (length to - done) 0 ≡ window
  unfolding window_of
  all_done l =
      let z : length to - done ≡ 0 = omega arith in
      let all = c.all in
      rw z (rw z at all)

  module _ (l : at < length segments) (n : ℕ) (e : n ≡ min (held_at segments at - skip) (length to - done)) (d : done ≤ length to) where
    pub piece_fits : (at + 5 + skip + n ≤ length segments) × (done + n ≤ length to)
    piece_fits =
        let f = first_of_lem segments at c.bytes c.here l in
        (omega (arith, f.size, c.skips l), omega arith)

    pub copying_next : (to' : Bytes) → to' ≡ paste to done (drop (at + 5 + skip) segments) n
        → Copying segments (at + (5 + held_at segments at)) 0 to' (done + n) window
    copying_next to' p =
        let f = first_of_lem segments at c.bytes c.here l in
        let held = held_at segments at in
        let bytes = c.bytes in
        let m = length to - done in
        let inside : skip + n ≤ held = omega (arith, c.skips l) in
        let fits = piece_fits in
        let rest = drop (at + 5) segments in
        let source = drop (at + 5 + skip) segments in
        let enough : n ≤ length source = omega (arith, length-drop (at + 5 + skip) segments) in
        let long : length (take held rest) ≡ held = length-take-le held rest (omega (arith, length-drop (at + 5) segments, f.size)) in
        let same : take n source ≡ window_of bytes skip n =
        ap (take n) (sym (drop-drop skip (at + 5) segments)) ∙ piece_same bytes rest held skip n f.first long inside in
        let length' : length to' ≡ length to = ap length p ∙ length-paste to done source n fits.1 enough in
        let left : length to' - (done + n) ≡ m - n = omega arith in
        record {
          bytes = drop held bytes;
          here = f.later;
          skips = λ _. omega arith;
          all =
              ap (λ (l : Bytes). take (done + n) l ++ window_of (drop held bytes) 0 (length to' - (done + n))) p
              ∙ ap (λ (l : Bytes). l ++ window_of (drop held bytes) 0 (length to' - (done + n))) (take-paste to done source n d enough)
              ∙ ap (λ (l : Bytes). take done to ++ l ++ window_of (drop held bytes) 0 (length to' - (done + n))) same
              ∙ ap (λ (k : ℕ). take done to ++ window_of bytes skip n ++ window_of (drop held bytes) 0 k) left
              ∙ append_assoc (take done to) (window_of bytes skip n) (window_of (drop held bytes) 0 (m - n))
              ∙ ap (λ (l : Bytes). take done to ++ (window_of bytes skip n ++ l)) (sym (goes_on bytes skip held m n e (c.skips l)))
              ∙ ap (λ (l : Bytes). take done to ++ l) (sym (window_splits bytes skip m n (omega arith)))
              ∙ c.all;
        }

-- ---- lent parts

-- n bytes of the segments put in a lent part
pub piece_put : (to segments part : Bytes) (from from_end at end n : ℕ) → from_end ≡ from + n → end ≡ at + n
    → part ≡ take (from_end - from) (drop from segments)
    → take at to ++ (part ++ drop (end - at) (drop at to)) ≡ paste to at (drop from segments) n
piece_put to segments part from from_end at end n f e p =
    let m : from_end - from ≡ n = omega arith in
    let k : end - at ≡ n = omega arith in
    ap (λ (l : Bytes). take at to ++ (l ++ drop (end - at) (drop at to))) (p ∙ ap (λ (i : ℕ). take i (drop from segments)) m)
    ∙ ap (λ (l : Bytes). take at to ++ (take n (drop from segments) ++ l)) (ap (λ (i : ℕ). drop i (drop at to)) k ∙ drop-drop n at to)
    ∙ sym (append_assoc (take at to) (take n (drop from segments)) (drop (at + n) to))

-- what is behind the bytes copied is wiped
pub rest-wiped : (to wiped window : Bytes) (done n : ℕ) → done ≤ n → length to ≡ n
    → wiped ≡ replicate (length (take (length to - done) (drop done to))) 0
    → take done to ++ replicate (n - done) 0 ≡ window
    → take done to ++ (wiped ++ drop (length to - done) (drop done to)) ≡ window
rest-wiped to wiped window done n d e w all =
    let m = length to - done in
    let long : length (drop done to) ≡ m = length-drop done to in
    let part : length (take m (drop done to)) ≡ n - done = length-take-le m (drop done to) (omega arith) ∙ omega arith in
    let none : drop m (drop done to) ≡ [] = drop_of_length-le (drop done to) {i = m} (omega arith) in
    ap (λ (l : Bytes). take done to ++ (l ++ drop m (drop done to))) (w ∙ ap (λ (k : ℕ). replicate k 0) part)
    ∙ ap (λ (l : Bytes). take done to ++ (replicate (n - done) 0 ++ l)) none
    ∙ ap (λ (l : Bytes). take done to ++ l) (append-nil (replicate (n - done) 0))
    ∙ all
