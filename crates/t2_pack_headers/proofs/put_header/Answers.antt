use Prim.Native.Nat.{ℕ, ◌+◌}
use mathlib.Core.Path.{◌≡◌, ◌∙◌, ap, sym, refl}
use mathlib.Core.List.{[]}
use lib.ListN.{length, drop, drop_of_length-le, get_or}
use native.Mathlib.Omega.{arith}
use Rattle.t800.specs.Base.{Bytes}
use Rattle.t2_pack_headers.specs.declared.Place.{Place}
use Rattle.t2_pack_headers.specs.Packing.{place_of, put_byte, put_header, Put}
use Rattle.t2_pack_headers.proofs.Laws.Steps.{put_turn, room_for_next}
use Rattle.t2_pack_headers.proofs.put_header.Goals as goal

pub place_of-p-requires : goal.place_of-p-requires
place_of-p-requires c = omega arith

pub loop-byte-init : goal.loop-byte-init
loop-byte-init c =
    let s = c in
    let e : s.args.count + 0 ≡ s.args.count = omega arith in
    let all : ℕ → Bytes = λ k. put_header s.args.headers.now k s.args.bytes.now in
    (refl, c.place_of-p.ensures ∙ ap place_of (sym e), ap all e)

pub put_byte-p-requires : goal.put_byte-p-requires
put_byte-p-requires c =
    let l = c.loop-byte in
    let s = c in
    room_for_next l.p (s.args.count + l.byte-index) (s.args.count + length s.args.bytes.now) (length l.headers)
    l.invariant.1 (omega arith) (rw l.invariant.0 s.requires.0) s.requires.1

pub loop-byte-preserved : goal.loop-byte-preserved
loop-byte-preserved c =
    let p = c.put_byte-p in
    let l = c.loop-byte in
    let s = c in
    let count = s.args.count in
    let bytes = s.args.bytes.now in
    let at_i : l.p.count ≡ count + l.byte-index = ap (λ (q : Place). q.count) l.invariant.1 in
    let one_more : l.p.count + 1 ≡ count + (l.byte-index + 1) = omega arith in (
      p.auto.headers ∙ l.invariant.0,
      ap (λ (k : Put). k.place) p.ensures ∙ ap place_of one_more,
      ap (λ (k : Put). put_header k.out (count + (l.byte-index + 1)) (drop (l.byte-index + 1) bytes)) p.ensures
          ∙ ap (λ (n : ℕ). put_header (put_byte l.headers n (get_or bytes l.byte-index 0)) (count + (l.byte-index + 1)) (drop (l.byte-index + 1) bytes)) at_i
          ∙ put_turn l.headers count bytes l.byte-index (omega arith)
          ∙ l.invariant.2,
    )

pub returns : goal.returns
unfolding put_header
returns c =
    let l = c.loop-byte in
    let bytes = c.args.bytes.now in
    let e : drop l.byte-index bytes ≡ [] = drop_of_length-le bytes {i = l.byte-index} (omega arith) in
    rw e at l.invariant.2

pub shape_of-headers : goal.shape_of-headers
shape_of-headers c = c.loop-byte.invariant.0
