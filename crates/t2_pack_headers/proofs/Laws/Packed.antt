-- Header bytes put one after another and closed are the segments of the definition.
use Prim.Native.Nat.{ℕ, zero, suc, ◌+◌, ◌-◌, ◌*◌, ◌/◌, ◌%◌, ◌<◌, ◌≤◌, min}
use mathlib.Core.Path.{◌≡◌, ap, sym, ◌∙◌, refl}
use mathlib.Core.Logic.{◌≢◌}
use mathlib.Core.List.{[], ◌∷◌, ◌++◌, append-nil}
use native.Mathlib.Numerals.{add-two, add-three}
use native.Mathlib.Omega.{arith}
use lib.ListN.{length, set, take, drop, length-set, length-append, length-take, length-drop, take-append-drop, drop_of_length-le}
use lib.Seq.{sets, length-sets, sets-eq, set_comm, set-set, take_all, length-take-le}
use lib.Dec.{eqb}
use Rattle.t800.specs.Base.{Bytes, overwrite}
use Rattle.t800.specs.PackedHeaders.{most_bytes, ppt_segment, packed_from, packed, segments_for}
use Rattle.t800_laws.proofs.Laws.Tests.{on-lt, on-eq, if-eq, if-ne, either}
use Rattle.t800_laws.proofs.Laws.Lists.{no_elements}
use Rattle.t2_pack_headers.specs.Packing.{packed_length, opening, put_byte, put_header, closed}

-- ---- how long

segment-length : (index : ℕ) (bytes : Bytes) → length (ppt_segment index bytes) ≡ 5 + length bytes
unfolding ppt_segment
segment-length index bytes = omega arith

packed-from_length : (bound index : ℕ) (hs : Bytes) → length hs ≤ bound
    → length (packed_from bound index hs) ≡ length hs + 5 * segments_for (length hs)
unfolding packed_from segments_for
packed-from_length zero index hs h = omega arith
packed-from_length (suc bound) index hs h =
    on-eq (length hs) 0
    (λ e. ap length (if-eq (length hs) 0 _ _ e) ∙ omega arith)
    (λ e. ap length (if-ne (length hs) 0 _ _ e)
    ∙ length-append (ppt_segment index (take most_bytes hs)) (packed_from bound (index + 1) (drop most_bytes hs))
    ∙ let d : length (drop most_bytes hs) ≡ length hs - most_bytes = length-drop most_bytes hs in
    let t : length (take most_bytes hs) ≡ min most_bytes (length hs) = length-take most_bytes hs in
    let f : length (ppt_segment index (take most_bytes hs)) ≡ 5 + length (take most_bytes hs) = segment-length index (take most_bytes hs) in
    omega (arith, packed-from_length bound (index + 1) (drop most_bytes hs) (omega arith)))

pub packed-length : (hs : Bytes) → length (packed hs) ≡ packed_length (length hs)
unfolding packed
packed-length hs = packed-from_length (length hs) 0 hs (omega arith)

-- ---- put one after another

pub put_append : (out : Bytes) (count : ℕ) (xs ys : Bytes)
    → put_header out count (xs ++ ys) ≡ put_header (put_header out count xs) (count + length xs) ys
unfolding put_header
put_append out count [] ys = ap (λ (k : ℕ). put_header out k ys) (omega arith)
put_append out count (x ∷ xs) ys =
    put_append (put_byte out count x) (count + 1) xs ys
    ∙ ap (λ (k : ℕ). put_header (put_header (put_byte out count x) (count + 1) xs) k ys) (omega arith)

byte_keeps_length : (out : Bytes) (count byte : ℕ) → length (put_byte out count byte) ≡ length out
unfolding put_byte
byte_keeps_length out count byte =
    either (λ (l : Bytes). length l ≡ length out) (eqb (count % most_bytes) 0) _ _
    (length-set (sets out (packed_length count) (opening (segments_for count))) (packed_length count + 5) byte
    ∙ length-sets out (packed_length count) (opening (segments_for count)))
    (length-set out (packed_length count) byte)

pub put_keeps_length : (out : Bytes) (count : ℕ) (bytes : Bytes) → length (put_header out count bytes) ≡ length out
unfolding put_header
put_keeps_length out count [] = refl
put_keeps_length out count (x ∷ xs) = put_keeps_length (put_byte out count x) (count + 1) xs ∙ byte_keeps_length out count x

pub closed-keeps_length : (out : Bytes) (count : ℕ) → length (closed out count) ≡ length out
unfolding closed
closed-keeps_length out count =
    either (λ (l : Bytes). length l ≡ length out) (eqb (count % most_bytes) 0) _ _ refl (simp length-set)

-- ---- stores one after another

sets_append : (out : Bytes) (at : ℕ) (xs ys : Bytes) → sets (sets out at xs) (at + length xs) ys ≡ sets out at (xs ++ ys)
sets_append out at [] ys = ap (λ (k : ℕ). sets out k ys) (omega arith)
sets_append out at (x ∷ xs) ys =
    ap (λ (k : ℕ). sets (sets (set out at x) (suc at) xs) k ys) (omega arith) ∙ sets_append (set out at x) (suc at) xs ys

-- a store before a run of stores
set_before : (out : Bytes) (at j a : ℕ) (xs : Bytes) → j < at → set (sets out at xs) j a ≡ sets (set out j a) at xs
set_before out at j a [] h = refl
set_before out at j a (x ∷ xs) h =
    set_before (set out at x) (suc at) j a xs (omega arith)
    ∙ ap (λ (l : Bytes). sets l (suc at) xs) (set_comm out at j x a (omega arith))

-- ---- one segment

-- bytes of a segment that is open
rest_put : (out : Bytes) (index r : ℕ) (xs : Bytes) → r ≢ 0 → r + length xs ≤ most_bytes
    → put_header out (index * most_bytes + r) xs ≡ sets out (packed_length (index * most_bytes + r)) xs
unfolding put_header put_byte segments_for
rest_put out index r [] z h = refl
rest_put out index r (x ∷ xs) z h =
    let n = index * most_bytes + r in
    ap (λ (l : Bytes). put_header l (n + 1) xs) (if-ne (n % most_bytes) 0 _ _ (omega arith))
    ∙ ap (λ (k : ℕ). put_header (set out (packed_length n) x) k xs) (let e : n + 1 ≡ index * most_bytes + (r + 1) = omega arith in e)
    ∙ rest_put (set out (packed_length n) x) index (r + 1) xs (omega arith) (omega arith)
    ∙ ap (λ (k : ℕ). sets (set out (packed_length n) x) k xs)
    (let e : packed_length (index * most_bytes + (r + 1)) ≡ suc (packed_length n) = omega arith in e)

-- a segment's bytes behind filled ones
segment-put : (out : Bytes) (index : ℕ) (xs : Bytes) → length xs ≢ 0 → length xs ≤ most_bytes
    → put_header out (index * most_bytes) xs ≡ sets out (index * (5 + most_bytes)) (opening index ++ xs)
unfolding put_header put_byte segments_for
segment-put out index [] z h = absurd (z refl)
segment-put out index (x ∷ xs) z h =
    let n = index * most_bytes in
    let at = index * (5 + most_bytes) in
    let a : packed_length n ≡ at = omega arith in
    let s : segments_for n ≡ index = omega arith in
    let opened = sets out at (opening index) in
    ap (λ (l : Bytes). put_header l (n + 1) xs) (if-eq (n % most_bytes) 0 _ _ (omega arith))
    ∙ ap (λ (k : ℕ). put_header (set (sets out k (opening (segments_for n))) (k + 5) x) (n + 1) xs) a
    ∙ ap (λ (k : ℕ). put_header (set (sets out at (opening k)) (at + 5) x) (n + 1) xs) s
    ∙ rest_put (set opened (at + 5) x) index 1 xs (omega arith) (omega arith)
    ∙ ap (λ (k : ℕ). sets (set opened (at + 5) x) k xs)
    (let e : packed_length (n + 1) ≡ suc (at + 5) = omega arith in e)
    ∙ sets_append out at (opening index) (x ∷ xs)

-- the length field of a segment set
field_set : (out : Bytes) (at index high low : ℕ) (xs : Bytes)
    → set (set (sets out at (opening index ++ xs)) (at + 2) high) (at + 3) low ≡ sets out at (0xff ∷ 0x61 ∷ high ∷ low ∷ index ∷ xs)
field_set out at index high low xs =
    let s₂ = suc (suc at) in
    let s₃ = suc s₂ in
    let s₄ = suc s₃ in
    let front = set (set out at 0xff) (suc at) 0x61 in
    let full = set (set front s₂ 0xff) s₃ 0xff in
    let field_high : set full s₂ high ≡ set (set front s₂ high) s₃ 0xff =
    set_comm (set front s₂ 0xff) s₃ s₂ 0xff high (omega arith) ∙ ap (λ (l : Bytes). set l s₃ 0xff) (set-set front s₂ 0xff high) in
    rw (add-two, add-three)
    (ap (λ (l : Bytes). set l s₃ low) (set_before (set full s₄ index) (suc s₄) s₂ high xs (omega arith))
    ∙ set_before (set (set full s₄ index) s₂ high) (suc s₄) s₃ low xs (omega arith)
    ∙ ap (λ (l : Bytes). sets l (suc s₄) xs)
    (ap (λ (l : Bytes). set l s₃ low) (set_comm full s₄ s₂ index high (omega arith) ∙ ap (λ (l : Bytes). set l s₄ index) field_high)
    ∙ set_comm (set (set front s₂ high) s₃ 0xff) s₄ s₃ index low (omega arith)
    ∙ ap (λ (l : Bytes). set l s₄ index) (set-set (set front s₂ high) s₃ 0xff low)))

-- a segment closed
segment-closed : (out : Bytes) (index : ℕ) (xs : Bytes) → length xs ≢ 0 → length xs ≤ most_bytes
    → closed (sets out (index * (5 + most_bytes)) (opening index ++ xs)) (index * most_bytes + length xs)
    ≡ sets out (index * (5 + most_bytes)) (ppt_segment index xs)
unfolding closed ppt_segment
segment-closed out index xs z h =
    let n = index * most_bytes + length xs in
    let at = index * (5 + most_bytes) in
    let before = sets out at (opening index ++ xs) in
    on-lt (length xs) most_bytes
    (λ l.
    let last : n % most_bytes ≡ length xs = omega arith in
    let q : n / most_bytes ≡ index = omega arith in
    if-ne (n % most_bytes) 0 _ _ (omega arith)
    ∙ ap (λ (k : ℕ). set (set before (k * (5 + most_bytes) + 2) ((3 + n % most_bytes) / 256)) (k * (5 + most_bytes) + 3)
    ((3 + n % most_bytes) % 256)) q
    ∙ ap (λ (k : ℕ). set (set before (at + 2) ((3 + k) / 256)) (at + 3) ((3 + k) % 256)) last
    ∙ field_set out at index ((3 + length xs) / 256) ((3 + length xs) % 256) xs)
    (λ l.
    let e : length xs ≡ most_bytes = omega arith in
    if-eq (n % most_bytes) 0 _ _ (omega arith)
    ∙ ap (λ (k : ℕ). sets out at (0xff ∷ 0x61 ∷ (3 + k) / 256 ∷ (3 + k) % 256 ∷ index ∷ xs)) (sym e))

-- a filled segment needs no closing
segment-filled : (out : Bytes) (index : ℕ) (xs : Bytes) → length xs ≡ most_bytes
    → put_header out (index * most_bytes) xs ≡ sets out (index * (5 + most_bytes)) (ppt_segment index xs)
unfolding ppt_segment
segment-filled out index xs e =
    segment-put out index xs (omega arith) (omega arith)
    ∙ ap (λ (k : ℕ). sets out (index * (5 + most_bytes)) (0xff ∷ 0x61 ∷ (3 + k) / 256 ∷ (3 + k) % 256 ∷ index ∷ xs)) (sym e)

-- ---- all segments

none_packed : (bound index : ℕ) → packed_from bound index [] ≡ []
unfolding packed_from
none_packed zero index = refl
none_packed (suc bound) index = refl

none_closed : (out : Bytes) (index : ℕ) → closed out (index * most_bytes + 0) ≡ out
unfolding closed
none_closed out index = if-eq ((index * most_bytes + 0) % most_bytes) 0 _ _ (omega arith)

none_put : (out hs : Bytes) (index : ℕ) → length hs ≡ 0
    → closed (put_header out (index * most_bytes) hs) (index * most_bytes + length hs) ≡ out
unfolding put_header
none_put out hs index e =
    ap (λ (l : Bytes). closed (put_header out (index * most_bytes) l) (index * most_bytes + length l)) (no_elements hs e)
    ∙ none_closed out index

-- the last segment
last_put : (out hs : Bytes) (bound index : ℕ) → length hs ≢ 0 → length hs ≤ most_bytes
    → closed (put_header out (index * most_bytes) hs) (index * most_bytes + length hs)
    ≡ sets out (index * (5 + most_bytes)) (ppt_segment index (take most_bytes hs) ++ packed_from bound (index + 1) (drop most_bytes hs))
last_put out hs bound index z h =
    let at = index * (5 + most_bytes) in
    let whole : take most_bytes hs ≡ hs = take_all most_bytes hs h in
    let none : drop most_bytes hs ≡ [] = drop_of_length-le hs h in
    ap (λ (l : Bytes). closed l (index * most_bytes + length hs)) (segment-put out index hs z h)
    ∙ segment-closed out index hs z h
    ∙ ap (λ (l : Bytes). sets out at (ppt_segment index l)) (sym whole)
    ∙ ap (sets out at) (sym (append-nil (ppt_segment index (take most_bytes hs))))
    ∙ ap (λ (l : Bytes). sets out at (ppt_segment index (take most_bytes hs) ++ l))
    (sym (ap (packed_from bound (index + 1)) none ∙ none_packed bound (index + 1)))

-- a filled segment, with `front` in it, and what comes behind it
filled_put : (out front later made : Bytes) (index : ℕ) → length front ≡ most_bytes
    → ((filled : Bytes)
    → closed (put_header filled ((index + 1) * most_bytes) later) ((index + 1) * most_bytes + length later)
    ≡ sets filled ((index + 1) * (5 + most_bytes)) made)
    → closed (put_header out (index * most_bytes) (front ++ later)) (index * most_bytes + length (front ++ later))
    ≡ sets out (index * (5 + most_bytes)) (ppt_segment index front ++ made)
filled_put out front later made index full made-later =
    let n = index * most_bytes in
    let at = index * (5 + most_bytes) in
    let filled = sets out at (ppt_segment index front) in
    let next : n + length front ≡ (index + 1) * most_bytes = omega arith in
    let end : n + length (front ++ later) ≡ (index + 1) * most_bytes + length later = omega (arith, length-append front later) in
    let place : (index + 1) * (5 + most_bytes) ≡ at + length (ppt_segment index front) = omega (arith, segment-length index front) in
    ap (λ (l : Bytes). closed l (n + length (front ++ later))) (put_append out n front later)
    ∙ ap (λ (l : Bytes). closed (put_header l (n + length front) later) (n + length (front ++ later))) (segment-filled out index front full)
    ∙ ap (λ (k : ℕ). closed (put_header filled k later) (n + length (front ++ later))) next
    ∙ ap (λ (k : ℕ). closed (put_header filled ((index + 1) * most_bytes) later) k) end
    ∙ made-later filled
    ∙ ap (λ (k : ℕ). sets filled k made) place
    ∙ sets_append out at (ppt_segment index front) made

packed-from : (bound index : ℕ) (out hs : Bytes) → length hs ≤ bound
    → closed (put_header out (index * most_bytes) hs) (index * most_bytes + length hs)
    ≡ sets out (index * (5 + most_bytes)) (packed_from bound index hs)
unfolding packed_from
packed-from zero index out hs h = none_put out hs index (omega arith)
packed-from (suc bound) index out hs h =
    let at = index * (5 + most_bytes) in
    let front = take most_bytes hs in
    let later = drop most_bytes hs in
    let made = packed_from bound (index + 1) later in
    let parted : front ++ later ≡ hs = take-append-drop most_bytes hs in
    on-eq (length hs) 0
    (λ z. none_put out hs index z ∙ ap (sets out at) (sym (if-eq (length hs) 0 _ _ z)))
    (λ z.
    on-lt most_bytes (length hs)
    (λ l.
    let full : length front ≡ most_bytes = length-take-le most_bytes hs (omega arith) in
    let fewer : length later ≤ bound = omega (arith, length-drop most_bytes hs) in
    ap (λ (l : Bytes). closed (put_header out (index * most_bytes) l) (index * most_bytes + length l)) (sym parted)
    ∙ filled_put out front later made index full (λ filled. packed-from bound (index + 1) filled later fewer))
    (λ l. last_put out hs bound index z l)
    ∙ ap (sets out at) (sym (if-ne (length hs) 0 _ _ z)))

-- all headers put and closed
pub closed-is_packed : (lent hs : Bytes) → length (packed hs) ≤ length lent
    → closed (put_header lent 0 hs) (length hs) ≡ overwrite lent (packed hs)
unfolding packed overwrite
closed-is_packed lent hs h =
    let made = packed hs in
    let z : 0 + length made ≡ length made = omega arith in
    ap (closed (put_header lent 0 hs)) (let e : length hs ≡ 0 * most_bytes + length hs = omega arith in e)
    ∙ packed-from (length hs) 0 lent hs (omega arith)
    ∙ sets-eq made lent 0 (omega arith)
    ∙ ap (λ (k : ℕ). made ++ drop k lent) z
