-- Blocks skipped one after another: one, none, and one list of them behind another.
use mathlib.Core.Path.{◌≡◌, refl, sym, ap, ◌∙◌, subst}
use mathlib.Core.Logic.{◌≢◌}
use mathlib.Core.Bool.{Bool, true, false, cond}
use mathlib.Core.List.{List, [], ◌∷◌, ◌++◌}
use Prim.Native.Nat.{ℕ, suc, ◌+◌, ◌-◌, ◌≤◌, ◌<◌}
use native.Mathlib.Omega.{arith}
use lib.ListN.{length, drop, length-append}
use lib.Dec.{eqb}
use Rattle.t800.specs.Bits.{reach}
use Rattle.t800.specs.Reports.{room_for_all}
use Rattle.t800.specs.State.{Block}
use Rattle.t800.specs.ReadHeader.{HeaderRead, read_block, read_blocks}
use Rattle.t800_laws.proofs.Laws.Tests.{if-eq, if-ne, on-eq}
use Rattle.t800_laws.proofs.Laws.Starts.{block_few}
use Rattle.tcd_places.proofs.Laws.Before.{drop-later}
use Rattle.t2_unpack_headers.specs.Windows.{window_of}
use Rattle.t2_read_segments.specs.declared.Run.{Run}
use Rattle.t2_read_segments.specs.Reading.{Reading, reading}
use Rattle.t2_read_block_parts.specs.Blocks.{next_block}
use Rattle.t2_skip_windows.specs.declared.InWindow.{InWindow}
use Rattle.t2_skip_windows.specs.Windows.{window_bytes, most_of_block, Ahead, Stands, Reads, Somewhere, Skips}
use Rattle.t2_skip_windows.proofs.Laws.OneBlock.{InPlace, in_window, block_near, same_block, still_few, goes_forward, same_refusal}
use Rattle.t2_skip_windows.proofs.Laws.OneBlock.{held_bare, EndsBare, block_bare_ends}

-- ---- two lists of blocks read

module _ (src : List ℕ) (room t : ℕ) (js : List Block) where
  read-then : (i : ℕ) (ks : List Block) (r : HeaderRead) → (read_blocks src room t i ks r).refusal ≡ 0
      → read_blocks src room t i (ks ++ js) r ≡ read_blocks src room t (i + length ks) js (read_blocks src room t i ks r)
  unfolding read_blocks
  read-then i [] r z = ap (λ (n : ℕ). read_blocks src room t n js r) (omega arith)
  read-then i (k ∷ ks) r z =
      let a : HeaderRead = read_block src room t i k r in
      on-eq a.refusal 0
      (λ y. let one = if-eq a.refusal 0 (read_blocks src room t (i + 1) ks a) a y in
      let n : i + 1 + length ks ≡ i + suc (length ks) = omega arith in
      if-eq a.refusal 0 _ _ y ∙ read-then (i + 1) ks a (sym (ap (λ (x : HeaderRead). x.refusal) one) ∙ z)
      ∙ (λ j. read_blocks src room t (n j) js (sym one j)))
      (λ y. absurd (y (sym (ap (λ (x : HeaderRead). x.refusal) (if-ne a.refusal 0 (read_blocks src room t (i + 1) ks a) a y)) ∙ z)))

  read-refused : (i : ℕ) (ks : List Block) (r : HeaderRead) → r.refusal ≡ 0 → (read_blocks src room t i ks r).refusal ≢ 0
      → read_blocks src room t i (ks ++ js) r ≡ read_blocks src room t i ks r
  unfolding read_blocks
  read-refused i [] r o z = absurd (z o)
  read-refused i (k ∷ ks) r o z =
      let a : HeaderRead = read_block src room t i k r in
      on-eq a.refusal 0
      (λ y. let one = if-eq a.refusal 0 (read_blocks src room t (i + 1) ks a) a y in
      if-eq a.refusal 0 _ _ y
      ∙ read-refused (i + 1) ks a y (λ q. z (ap (λ (x : HeaderRead). x.refusal) one ∙ q)) ∙ sym one)
      (λ y. if-ne a.refusal 0 _ _ y ∙ sym (if-ne a.refusal 0 _ _ y))

-- ---- skipped

pub stands_ahead : (at i : ℕ) (ws : List ℕ) (s o : InWindow) (r : HeaderRead) → Ahead s o → Stands at i ws s r → Stands at i ws o r
stands_ahead at i ws s o r h st = record {
  words = st.words;
  place = st.place ∙ sym h.place;
  buf = st.buf ∙ sym (ap (λ (x : Run). x.bio.buf) h.run);
  ct = st.ct ∙ sym (ap (λ (x : Run). x.bio.ct) h.run);
  few = st.few;
  near = st.near;
  reports = st.reports;
  count = ap (λ (x : Run). x.count) h.run ∙ st.count;
  records = st.records;
  room = ap (λ (x : Run). x.room) h.run ∙ st.room;
  bytes = ap (λ (x : Run). x.bytes) h.run ∙ st.bytes;
  accepted = st.accepted;
  goes_on = ap (λ (x : Run). x.refusal) h.run ∙ st.goes_on;
}

pub somewhere_ahead : (i : ℕ) (ws : List ℕ) (s o : InWindow) → Ahead s o → Somewhere i ws s → Somewhere i ws o
somewhere_ahead i ws s o h w = record {
  at = w.at;
  reading = w.reading;
  near = w.near;
  stands = stands_ahead w.at i ws s o w.reading h w.stands;
}

module _ (bytes : List ℕ) (t : ℕ) where
  pub skips_none : (i : ℕ) (ws : List ℕ) (s : InWindow) → Skips bytes t i [] ws s ws s
  unfolding read_blocks
  skips_none i ws s at r st =
      let e : i ≡ i + 0 = omega arith in
      record { refuses = st.goes_on ∙ sym st.accepted; holds = λ _. subst (λ (n : ℕ). Stands at n ws s r) e st }

  module _ (i : ℕ) (ks js : List Block) (ws : List ℕ) (s : InWindow) (vs : List ℕ) (o : InWindow)
      (first : Skips bytes t i ks ws s vs o) where
    skips_then : o.run.refusal ≡ 0 → (us : List ℕ) (e : InWindow) → Skips bytes t (i + length ks) js vs o us e
        → Skips bytes t i (ks ++ js) ws s us e
    skips_then z us e rest at r st =
        let a : HeaderRead = read_blocks (drop at bytes) room_for_all t i ks r in
        let one : Reads at (i + length ks) vs o a = first at r st in
        let y : a.refusal ≡ 0 = sym one.refuses ∙ z in
        let n : i + length ks + length js ≡ i + length (ks ++ js) = omega (arith, length-append ks js) in
        subst (Reads at (i + length (ks ++ js)) us e) (sym (read-then (drop at bytes) room_for_all t js i ks r y))
        (subst (λ (m : ℕ). Reads at m us e (read_blocks (drop at bytes) room_for_all t (i + length ks) js a)) n (rest at a (one.holds y)))

    skips_refused : o.run.refusal ≢ 0 → Skips bytes t i (ks ++ js) ws s vs o
    skips_refused z at r st =
        let a : HeaderRead = read_blocks (drop at bytes) room_for_all t i ks r in
        let one : Reads at (i + length ks) vs o a = first at r st in
        let y : a.refusal ≢ 0 = λ q. z (one.refuses ∙ q) in
        subst (Reads at (i + length (ks ++ js)) vs o) (sym (read-refused (drop at bytes) room_for_all t js i ks r st.accepted y))
        (record { refuses = one.refuses; holds = λ q. absurd (y q) })

    somewhere_then : o.run.refusal ≡ 0 → Somewhere i ws s → Somewhere (i + length ks) vs o
    somewhere_then z w =
        let one = first w.at w.reading w.stands in
        record {
          at = w.at;
          reading = read_blocks (drop w.at bytes) room_for_all t i ks w.reading;
          near = w.near;
          stands = one.holds (sym one.refuses ∙ z);
        }

  pub skips_ahead : (i : ℕ) (ks : List Block) (ws : List ℕ) (s o : InWindow) (vs : List ℕ) (e : InWindow) → Ahead s o
      → Skips bytes t i ks ws o vs e → Skips bytes t i ks ws s vs e
  skips_ahead i ks ws s o vs e h f at r st = f at r (stands_ahead at i ws s o r h st)

  -- the first of `all`, and the rest from number j on
  module _ (i j : ℕ) (ks js all : List Block) (parts : all ≡ ks ++ js) (next : i + length ks ≡ j) (ws : List ℕ) (s : InWindow)
      (vs : List ℕ) (o : InWindow) (first : Skips bytes t i ks ws s vs o) where
    pub skips_turn : o.run.refusal ≡ 0 → (us : List ℕ) (e : InWindow) → Skips bytes t j js vs o us e → Skips bytes t i all ws s us e
    skips_turn z us e rest =
        subst (λ (l : List Block). Skips bytes t i l ws s us e) (sym parts)
        (skips_then i ks js ws s vs o first z us e (subst (λ (n : ℕ). Skips bytes t n js vs o us e) (sym next) rest))

    pub skips_stop : o.run.refusal ≢ 0 → Skips bytes t i all ws s vs o
    skips_stop z = subst (λ (l : List Block). Skips bytes t i l ws s vs o) (sym parts) (skips_refused i ks js ws s vs o first z)

    pub somewhere_turn : o.run.refusal ≡ 0 → Somewhere i ws s → Somewhere j vs o
    somewhere_turn z w = subst (λ (n : ℕ). Somewhere n vs o) next (somewhere_then i ks js ws s vs o first z w)

-- ---- words that stay

-- from q on, and then from m on
pub after_then : (q m n : ℕ) (ws vs us : List ℕ) → q ≤ n → m ≤ n → drop q vs ≡ drop q ws → drop m us ≡ drop m vs → drop n us ≡ drop n ws
after_then q m n ws vs us h k e f = drop-later m n us vs k f ∙ drop-later q n vs ws h e

-- ---- one block

both_same : (c : Bool) (x : HeaderRead) → cond c x x ≡ x
both_same true x = refl
both_same false x = refl

-- the code's reading of block k in the window s, with the bytes of a block ahead
module _ (bytes window ws vs : List ℕ) (s : InWindow) (o : Run) (t i : ℕ) (k : Block)
    (holds : window ≡ window_of bytes s.base window_bytes) (ahead : s.run.bio.bp + most_of_block ≤ window_bytes)
    (placed : InPlace (length ws) k) (below : t < 65535) (few_blocks : i < 12288)
    (is : reading vs [] [] o ≡ next_block window t i k (reading ws [] [] s.run))
  where
    abbrev after : InWindow
    after = record { run = o; base = s.base }

    module _ (at : ℕ) (r : HeaderRead) (st : Stands at i ws s r) where
      near : r.bio.bp + most_of_block < length (drop at bytes) + reach
      near = omega (arith, st.near)

      abbrev there : HeaderRead → HeaderRead
      there = in_window bytes window at s.base s.run.bio.bp r holds st.place ahead near

      stands_there : reading ws [] [] s.run ≡ held_bare room_for_all (there r)
      stands_there =
          let p : s.run.bio.bp ≡ at + r.bio.bp - s.base = omega (arith, st.place) in
          λ j. record {
            words = sym st.words j;
            reports = [];
            records = [];
            bio = record { bp = p j; buf = sym st.buf j; ct = sym st.ct j };
            count = st.count j;
            room = st.room j;
            bytes = st.bytes j;
            refusal = (st.goes_on ∙ sym st.accepted) j;
          }

      in_place : InPlace (length r.words) k
      in_place = subst (λ (l : List ℕ). InPlace (length l) k) (sym st.words) placed

      abbrev over : HeaderRead
      over = read_block (drop at bytes) room_for_all t i k r

      abbrev inside : HeaderRead
      inside = read_block window room_for_all t i k (there r)

      ends : EndsBare (length r.words) room_for_all (i + 1) (reading vs [] [] o) inside
      ends =
          subst (λ (a : Reading). EndsBare (length r.words) room_for_all (i + 1) a inside)
          (sym (is ∙ ap (next_block window t i k) stands_there))
          (block_bare_ends window room_for_all t i k (there r) in_place.apart st.reports (omega (arith, st.records)) st.accepted)

      refuses : o.refusal ≡ over.refusal
      refuses =
          ends.refuses
          ∙ same_refusal bytes window at s.base s.run.bio.bp r holds st.place ahead near room_for_all t i k in_place below
          st.few st.accepted (omega (arith, st.records))

      stands_after : over.refusal ≡ 0 → Stands at (i + 1) vs after over
      stands_after z =
          let same : inside ≡ there over = same_block bytes window at s.base s.run.bio.bp r holds st.place ahead near
          room_for_all t i k in_place below st.few z in
          let h = ends.holds (ap (λ (x : HeaderRead). x.refusal) same ∙ z) in
          let e : reading vs [] [] o ≡ held_bare room_for_all (there over) = h.0 ∙ ap (held_bare room_for_all) same in
          let forward = goes_forward bytes window at s.base s.run.bio.bp r holds st.place ahead near room_for_all t i k
          in_place below st.few z in
          let p : o.bio.bp ≡ at + over.bio.bp - s.base = ap (λ (a : Reading). a.bio.bp) e in
          record {
            words = sym (ap (λ (a : Reading). a.words) e);
            place = omega (arith, st.place);
            buf = sym (ap (λ (a : Reading). a.bio.buf) e);
            ct = sym (ap (λ (a : Reading). a.bio.ct) e);
            few = still_few bytes window at s.base s.run.bio.bp r holds st.place ahead near room_for_all t i k in_place below
                st.few z;
            near = omega (arith, st.near, block_near (drop at bytes) room_for_all t i k r in_place below st.few z);
            reports = sym (ap (λ (x : HeaderRead). length x.reports) same) ∙ h.1;
            count = ap (λ (a : Reading). a.count) e;
            records = omega (arith, st.records, block_few (drop at bytes) room_for_all t i k r);
            room = ap (λ (a : Reading). a.room) e;
            bytes = ap (λ (a : Reading). a.bytes) e;
            accepted = z;
            goes_on = refuses ∙ z;
          }

    pub block_skips : Skips bytes t i (k ∷ []) ws s vs after
    unfolding read_blocks
    block_skips at r st =
        subst (Reads at (i + 1) vs after) (sym (both_same (eqb (over at r st).refusal 0) (over at r st)))
        (record { refuses = refuses at r st; holds = stands_after at r st })
