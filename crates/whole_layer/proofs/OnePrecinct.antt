-- The round trip of one precinct is that of several, where there is only one and no layer call.
use mathlib.Core.Path.{◌≡◌, refl, sym, ◌∙◌, subst}
use mathlib.Core.Bool.{Bool, true, false, cond, ◌&&◌}
use mathlib.Core.List.{List, [], ◌∷◌, ◌++◌, flat_map}
use Prim.Native.Nat.{ℕ}
use native.Mathlib.Omega.{arith}
use lib.Dec.{T}
use Rattle.t800.specs.Base.{Words}
use Rattle.t800.specs.State.{reader}
use Rattle.t800.specs.Book.{BlockEntry, add_counts, terminated_as_style}
use Rattle.t800.specs.Interface.{Interface}
use Rattle.t800.specs.RoundTrip as one
use Rattle.t800.specs.RoundTrip.{Owed, owed_for, WriterMade, measured, written, RoundTrip}
use Rattle.whole_layer.specs.SingleCalls.{LayerInterface}
use Rattle.whole_layer.specs.Several.{Written, owed_for_all, all_terminated, SeveralMade, measured_at, written_at, Finds, after, Follows}
use Rattle.whole_layer.specs.Several.{packet_for, packets_for, SeveralRoundTrip}

-- one packet more, or none
owed_if : (b : Bool) (p : Written) (ps : List Written) (style : ℕ) (book : List BlockEntry)
    → owed_for_all style book (cond b (p ∷ []) [] ++ ps)
    ≡ cond b (owed_for style book p.call p.left ∷ owed_for_all style (add_counts book p.call.contribution.counts) ps)
    (owed_for_all style book ps)
unfolding owed_for_all
owed_if true p ps style book = refl
owed_if false p ps style book = refl

terminated_if : (b : Bool) (p : Written) (ps : List Written) (style : ℕ) (book : List BlockEntry)
    → all_terminated style book (cond b (p ∷ []) [] ++ ps)
    ≡ cond b
    (terminated_as_style style book p.call.contribution.counts p.call.contribution.marks
    && all_terminated style (add_counts book p.call.contribution.counts) ps) (all_terminated style book ps)
unfolding all_terminated
terminated_if true p ps style book = refl
terminated_if false p ps style book = refl

module _ (J : LayerInterface) where
  abbrev I : Interface
  I = J.single

  -- all of them on precinct 0
  alone : List (WriterMade I) → List (SeveralMade J)
  alone [] = []
  alone (measured m ∷ cs) = measured_at 0 m ∷ alone cs
  alone (written m ∷ cs) = written_at 0 m ∷ alone cs

  follows_alone : (state : Words) (cs : List (WriterMade I)) → one.Follows I state cs → Follows J (state ∷ []) (alone cs)
  unfolding alone one.Follows Follows Finds after
  follows_alone state [] f = tt
  follows_alone state (measured m ∷ cs) f = ((omega arith, f.0), follows_alone state cs f.1)
  follows_alone state (written m ∷ cs) f = ((omega arith, f.0), follows_alone (I.writes.left m).state cs f.1)

  abbrev packet_of : I.writes.Made → Written
  packet_of m = record { call = I.writes.args m; left = I.writes.left m }

  owed_alone : (style : ℕ) (book : List BlockEntry) (cs : List (WriterMade I))
      → owed_for_all style book (packets_for J 0 (alone cs)) ≡ one.owed I style book cs
  unfolding alone one.owed owed_for_all packet_for flat_map
  owed_alone style book [] = refl
  owed_alone style book (measured m ∷ cs) = owed_alone style book cs
  owed_alone style book (written m ∷ cs) =
      let c = I.writes.args m in
      let here : Owed = owed_for style book c (I.writes.left m) in
      owed_if (one.accepted I m) (packet_of m) (packets_for J 0 (alone cs)) style book
      ∙ (λ i. cond (one.accepted I m) (here ∷ owed_alone style (add_counts book c.contribution.counts) cs i)
      (owed_alone style book cs i))

  terminated_alone : (style : ℕ) (book : List BlockEntry) (cs : List (WriterMade I))
      → all_terminated style book (packets_for J 0 (alone cs)) ≡ one.all_terminated_as_style I style book cs
  unfolding alone one.all_terminated_as_style all_terminated packet_for flat_map
  terminated_alone style book [] = refl
  terminated_alone style book (measured m ∷ cs) = terminated_alone style book cs
  terminated_alone style book (written m ∷ cs) =
      let p = (I.writes.args m).contribution in
      let here : Bool = terminated_as_style style book p.counts p.marks in
      terminated_if (one.accepted I m) (packet_of m) (packets_for J 0 (alone cs)) style book
      ∙ (λ i. cond (one.accepted I m) (here && terminated_alone style (add_counts book p.counts) cs i) (terminated_alone style book cs i))

pub one_precinct : (J : LayerInterface) → SeveralRoundTrip J → RoundTrip J.single
unfolding SeveralRoundTrip RoundTrip
one_precinct J several w r ew er counts bands styles ws f t rs =
    let style : ℕ = one.style_of J.single w in
    let book : List BlockEntry = one.book_of J.single w in
    subst (λ (os : List Owed). one.ReadsAsOwed J.single ((J.single.starts reader).left r).state os rs)
    (owed_alone J style book ws)
    (several [] [] w r (ew, tt) er counts bands styles (alone J ws) (follows_alone J _ ws f)
    (subst T (sym (terminated_alone J style book ws)) t) rs)
