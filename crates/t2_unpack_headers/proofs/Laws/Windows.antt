-- Windows on header bytes.
use Prim.Native.Nat.{ℕ, ◌+◌, ◌-◌, ◌<◌, ◌≤◌}
use mathlib.Core.Path.{◌≡◌, ap, sym, ◌∙◌}
use mathlib.Core.List.{◌++◌}
use native.Mathlib.Omega.{arith}
use lib.ListN.{length, get_or, take, drop, replicate, length-append, length-drop, length-replicate, get_or-replicate}
use lib.ListN.{get_or-append, get_or-eq_default, drop_of_length-le}
use lib.Seq.{take-append-le, get_or-take, get_or-drop, get_or-append-add, ext_get_or, length-take-le, take_all}
use Rattle.t800.specs.Base.{Bytes}
use Rattle.t800_laws.proofs.Laws.Tests.{on-lt}
use Rattle.t2_unpack_headers.specs.Windows.{window_of}

pub window_length : (bytes : Bytes) (from n : ℕ) → length (window_of bytes from n) ≡ n
unfolding window_of
window_length bytes from n =
    length-take-le n (drop from bytes ++ replicate n 0)
    (omega (arith, length-append (drop from bytes) (replicate n 0), length-replicate {A = ℕ} n 0))

-- each byte of a window
pub window_at : (bytes : Bytes) (from n i : ℕ) → i < n → get_or (window_of bytes from n) i 0 ≡ get_or bytes (from + i) 0
unfolding window_of
window_at bytes from n i h =
    let d : length (drop from bytes) ≡ length bytes - from = length-drop from bytes in
    get_or-take n (drop from bytes ++ replicate n 0) i 0 h
    ∙ on-lt i (length (drop from bytes))
    (λ l. get_or-append (drop from bytes) (replicate n 0) 0 i l ∙ get_or-drop from bytes i 0)
    (λ l.
    let past : get_or bytes (from + i) 0 ≡ 0 = get_or-eq_default bytes 0 {n = from + i} (omega arith) in
    let j = i - length (drop from bytes) in
    let e : i ≡ length (drop from bytes) + j = omega arith in
    ap (λ (k : ℕ). get_or (drop from bytes ++ replicate n 0) k 0) e
    ∙ get_or-append-add (drop from bytes) (replicate n 0) j 0
    ∙ get_or-replicate n j 0 0 (omega arith)
    ∙ sym past)

-- two windows are one where their bytes are
same_window : (xs ys : Bytes) (a b n : ℕ) → ((i : ℕ) → i < n → get_or xs (a + i) 0 ≡ get_or ys (b + i) 0) → window_of xs a n ≡ window_of ys b n
same_window xs ys a b n e =
    let l : length (window_of xs a n) ≡ n = window_length xs a n in
    let m : length (window_of ys b n) ≡ n = window_length ys b n in
    ext_get_or 0 (window_of xs a n) (window_of ys b n) (l ∙ sym m)
    (λ i h. let k : i < n = omega arith in window_at xs a n i k ∙ e i k ∙ sym (window_at ys b n i k))

-- the header bytes from one on, as those from a later one on
pub window_from : (bytes : Bytes) (before from n : ℕ) → before ≤ from
    → window_of (drop before bytes) (from - before) n ≡ window_of bytes from n
window_from bytes before from n h =
    same_window (drop before bytes) bytes (from - before) from n
    (λ i _. get_or-drop before bytes (from - before + i) 0 ∙ ap (λ (k : ℕ). get_or bytes k 0) (omega arith))

-- where all its bytes are there
pub window_inside : (bytes : Bytes) (from n : ℕ) → from + n ≤ length bytes → window_of bytes from n ≡ take n (drop from bytes)
unfolding window_of
window_inside bytes from n h =
    take-append-le n (drop from bytes) (replicate n 0) (omega (arith, length-drop from bytes))

-- where none of them is
pub window_past : (bytes : Bytes) (from n : ℕ) → length bytes ≤ from → window_of bytes from n ≡ replicate n 0
unfolding window_of
window_past bytes from n h =
    ap (λ (l : Bytes). take n (l ++ replicate n 0)) (drop_of_length-le bytes h)
    ∙ take_all n (replicate n 0) (omega (arith, length-replicate {A = ℕ} n 0))

-- in two parts
pub window_splits : (bytes : Bytes) (from n k : ℕ) → k ≤ n
    → window_of bytes from n ≡ window_of bytes from k ++ window_of bytes (from + k) (n - k)
window_splits bytes from n k h =
    let first = window_of bytes from k in
    let second = window_of bytes (from + k) (n - k) in
    let l : length (window_of bytes from n) ≡ n = window_length bytes from n in
    let l₁ : length first ≡ k = window_length bytes from k in
    let l₂ : length second ≡ n - k = window_length bytes (from + k) (n - k) in
    ext_get_or 0 (window_of bytes from n) (first ++ second) (omega (arith, length-append first second))
    (λ i h.
    let below : i < n = omega arith in
    window_at bytes from n i below
    ∙ sym (on-lt i k
    (λ a. get_or-append first second 0 i (omega arith) ∙ window_at bytes from k i a)
    (λ a.
    let j = i - k in
    let e : i ≡ length first + j = omega arith in
    let f : from + k + j ≡ from + i = omega arith in
    ap (λ (m : ℕ). get_or (first ++ second) m 0) e
    ∙ get_or-append-add first second j 0
    ∙ window_at bytes (from + k) (n - k) j (omega arith)
    ∙ ap (λ (m : ℕ). get_or bytes m 0) f)))
