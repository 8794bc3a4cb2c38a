-- SCOPE S16, packets to check by hand: A to L and every refusal named beside them; then each of the numbers but 15, each place where two
-- of them could be given, and the slips. One table, and one statement that covers its rows.
use mathlib.Core.Path.{◌≡◌, refl}
use Prim.Native.Nat.{ℕ, ◌+◌, ◌-◌, ◌*◌, ◌^◌}
use mathlib.Core.Bool.{true, false, cond}
use mathlib.Core.List.{List, [], ◌∷◌, ◌++◌, flat_map}
use lib.ListN.{length, replicate, set, take}
use lib.Dec.{eqb}
use Rattle.t800.specs.declared.Band.{Band}
use Rattle.t800.specs.declared.Markers.{Markers}
use Rattle.t800.specs.WriteHeader.{contribution}
use Rattle.t800.specs.Base.{sum}
use Rattle.t800.specs.Segments.{term_all, bypass}
use Rattle.t800.specs.State.{not_yet_included, not_yet_planes}
use Rattle.t800.proofs.Table.{Step, starts, loads_writer, loads-reader, holds-writer, holds-reader, writes, heads}
use Rattle.t800.proofs.Table.{reads_starts, reads, LayerWriting, writes_layer, Row, row_holds, failing}
use Rattle.t800.proofs.Table.{Moving, reads_gathered, gathers, spreads}

-- ---- short forms

abbrev copies : ℕ → ℕ → List ℕ
copies n x = replicate n x

abbrev band : ℕ → ℕ → ℕ → Band
band w h p = record { across = w; down = h; planes = p }

abbrev plain : Markers
plain = record { sop = false; eph = false }

abbrev marked : Markers
marked = record { sop = true; eph = true }

-- one band of 5 planes and w blocks in a row, with the style s and blocks of so many planes
abbrev precinct : ℕ → ℕ → List ℕ → List Step → Row
precinct w s ps steps = record { given = band w 1 5 ∷ []; planes = ps; style = s; steps = steps }

-- one block with zero planes 0, style 0; its state has 23 words, and that of two blocks in a row 39
abbrev one : List Step → Row
one steps = precinct 1 0 (5 ∷ []) steps

-- a call with the scratch of n words, the body of the lengths' sum, and so many bytes of output
abbrev put : ℕ → List ℕ → List ℕ → List ℕ → ℕ → ℕ → List ℕ → Step
put n cs ls ms room why bytes =
    writes (record { contribution = contribution cs ls ms; markers = plain; number = 0; scratch = n; body = sum ls; output = room })
    why bytes

-- and accepted, with just the output it needs
abbrev puts : ℕ → List ℕ → List ℕ → List ℕ → List ℕ → Step
puts n cs ls ms bytes = put n cs ls ms (length bytes + sum ls) 0 bytes

-- k blocks without passes
abbrev puts_none : ℕ → ℕ → Step
puts_none n k = puts n (copies k 0) [] [] (0x00 ∷ [])

-- a read of k blocks with n scratch words and five records
abbrev get : ℕ → ℕ → List ℕ → List ℕ → List ℕ → List ℕ → Step
get n k src answer reports records =
    reads (record { markers = plain; input = src; scratch = n; reports = 4 * k; records = 20 }) answer reports records

-- the answer of a packet without markers: present, bytes taken, segments; bits past the end
abbrev told-past : ℕ → ℕ → ℕ → ℕ → List ℕ
told-past present taken segments past = 0 ∷ present ∷ taken ∷ segments ∷ 0 ∷ 0 ∷ past ∷ []

abbrev told : ℕ → ℕ → ℕ → List ℕ
told present taken segments = told-past present taken segments 0

-- k blocks of an absent packet
abbrev gets_none : ℕ → ℕ → Step
gets_none n k = get n k (0x00 ∷ []) (told 0 1 0) (copies (4 * k) 0) []

abbrev no : ℕ → List ℕ
no why = why ∷ 0 ∷ 0 ∷ 0 ∷ 0 ∷ 0 ∷ 0 ∷ []

-- n passes of which the first has all the bytes
abbrev lengths : ℕ → ℕ → List ℕ
lengths n bytes = bytes ∷ copies (n - 1) 0

-- a block that comes for the first time with n passes in one segment: written, and read back
abbrev both : ℕ → ℕ → List ℕ → List Step
both n bytes front =
    puts 23 (n ∷ []) (lengths n bytes) (copies n 0) front
    ∷ get 23 1 front (told 1 (length front) 1) (1 ∷ 0 ∷ 5 ∷ n ∷ []) (0 ∷ 1 ∷ n ∷ bytes ∷ [])
    ∷ []

-- ---- states of the one block, by role, style, layer and the words of inclusion node, zero-plane node and block

abbrev words : ℕ → ℕ → ℕ → List ℕ → List ℕ → List ℕ → List ℕ
words role style layer incl zero block = role ∷ 1 ∷ style ∷ layer ∷ 1 ∷ 1 ∷ 5 ∷ copies 6 0 ++ incl ++ zero ++ block

-- three words, four words
abbrev node : ℕ → ℕ → ℕ → List ℕ
node v l k = v ∷ l ∷ k ∷ []

abbrev block : ℕ → ℕ → ℕ → ℕ → List ℕ
block passes bits limit used = passes ∷ bits ∷ limit ∷ used ∷ []

-- of each tree a node of which nothing is known
abbrev fresh_included : List ℕ
fresh_included = node not_yet_included 0 0

abbrev fresh_planes : List ℕ
fresh_planes = node not_yet_planes 0 0

-- a reader that has read nothing but absent packets
abbrev unread : ℕ → List ℕ
unread layer = words 2 0 layer fresh_included fresh_planes (block 0 0 0 0)

-- a writer and a reader that have one pass of the block so far, with so many length bits
abbrev wrote : ℕ → ℕ → List ℕ
wrote layer bits = words 1 0 layer (node 0 1 1) (node 0 1 1) (block 1 bits 0 0)

abbrev read_one : ℕ → ℕ → ℕ → List ℕ
read_one style layer bits =
    words 2 style layer (node 0 1 0) (node 0 1 0) (block 1 bits (cond (term_all style) 1 (cond (bypass style) 10 109)) 1)

-- ---- A to L

pub a_to_l : List Row
a_to_l =
    -- A, B, C, D, E, and E's first three bytes
    one (both 1 5 (0xe5 ∷ []))
    ∷ one (both 1 8 (0xea ∷ 0x00 ∷ []))
    ∷ one (both 2 15 (0xf3 ∷ 0xc0 ∷ []))
    ∷ one (both 37 200 (0xff ∷ 0x78 ∷ 0x06 ∷ 0x40 ∷ []))
    ∷ one (both 16 511 (0xfe ∷ 0xad ∷ 0xff ∷ 0x00 ∷ []))
    ∷ one (get 23 1 (0xfe ∷ 0xad ∷ 0xff ∷ []) (no 12) [] [] ∷ [])
    -- F, G, H
    ∷ one
    (puts_none 23 1 ∷ holds-writer (words 1 0 1 fresh_included (node 0 0 0) (block 0 0 0 0))
    ∷ gets_none 23 1 ∷ holds-reader (unread 1)
    ∷ [])
    ∷ one (get 23 1 [] (told-past 0 0 0 1) (copies 4 0) [] ∷ holds-reader (unread 1) ∷ [])
    ∷ one (gets_none 23 1 ∷ holds-reader (unread 1) ∷ [])
    -- I: A with both markers, number 65,537
    ∷ one
    (writes
    (record {
      contribution = contribution (1 ∷ []) (5 ∷ []) (0 ∷ []);
      markers = marked;
      number = 65537;
      scratch = 23;
      body = 5;
      output = 20;
    }) 0
    (0xff ∷ 0x91 ∷ 0x00 ∷ 0x04 ∷ 0x00 ∷ 0x01 ∷ 0xe5 ∷ 0xff ∷ 0x92 ∷ [])
    ∷ reads
    (record {
      markers = marked;
      input = 0xff ∷ 0x91 ∷ 0x00 ∷ 0x04 ∷ 0x00 ∷ 0x01 ∷ 0xe5 ∷ 0xff ∷ 0x92 ∷ copies 5 7;
      scratch = 23;
      reports = 4;
      records = 4;
    })
    (told 1 9 1) (1 ∷ 0 ∷ 5 ∷ 1 ∷ []) (0 ∷ 1 ∷ 1 ∷ 5 ∷ [])
    ∷ [])
    -- J: absent in layer 0, then 1 pass of 5, then 1 pass of 3
    ∷ one
    (puts_none 23 1
    ∷ puts 23 (1 ∷ []) (5 ∷ []) (0 ∷ []) (0xb2 ∷ 0x80 ∷ [])
    ∷ puts 23 (1 ∷ []) (3 ∷ []) (0 ∷ []) (0xc6 ∷ [])
    ∷ gets_none 23 1
    ∷ get 23 1 (0xb2 ∷ 0x80 ∷ []) (told 1 2 1) (1 ∷ 0 ∷ 5 ∷ 1 ∷ []) (0 ∷ 1 ∷ 1 ∷ 5 ∷ [])
    ∷ get 23 1 (0xc6 ∷ []) (told 1 1 1) (2 ∷ 0 ∷ 0 ∷ 1 ∷ []) (0 ∷ 0 ∷ 1 ∷ 3 ∷ [])
    ∷ [])
    -- K: two blocks across, zero planes 0 and 1
    ∷ precinct 2 0 (5 ∷ 4 ∷ [])
    (puts 39 (1 ∷ 1 ∷ []) (5 ∷ 5 ∷ []) (0 ∷ 0 ∷ []) (0xf9 ∷ 0x69 ∷ 0x40 ∷ [])
    ∷ get 39 2 (0xf9 ∷ 0x69 ∷ 0x40 ∷ []) (told 1 3 2) (1 ∷ 0 ∷ 5 ∷ 1 ∷ 1 ∷ 1 ∷ 4 ∷ 1 ∷ []) (0 ∷ 1 ∷ 1 ∷ 5 ∷ 1 ∷ 1 ∷ 1 ∷ 5 ∷ [])
    ∷ [])
    -- L: 13 passes with style 0x01 split 10, 2, 1; 110 passes with style 0 split 109, 1; a byte each
    ∷ precinct 1 1 (5 ∷ [])
    (puts 23 (13 ∷ []) (copies 13 1) (copies 9 0 ++ 1 ∷ 0 ∷ 1 ∷ 0 ∷ []) (0xfe ∷ 0x71 ∷ 0x44 ∷ 0x40 ∷ [])
    ∷ get 23 1 (0xfe ∷ 0x71 ∷ 0x44 ∷ 0x40 ∷ []) (told 1 4 3) (1 ∷ 0 ∷ 5 ∷ 13 ∷ []) (0 ∷ 1 ∷ 10 ∷ 10 ∷ 0 ∷ 1 ∷ 2 ∷ 2 ∷ 0 ∷ 1 ∷ 1 ∷ 1 ∷ [])
    ∷ [])
    ∷ one
    (puts 23 (110 ∷ []) (copies 110 1) (copies 108 0 ++ 1 ∷ 0 ∷ []) (0xff ∷ 0x7c ∷ 0x91 ∷ 0xb4 ∷ 0x80 ∷ [])
    ∷ get 23 1 (0xff ∷ 0x7c ∷ 0x91 ∷ 0xb4 ∷ 0x80 ∷ []) (told 1 5 2) (1 ∷ 0 ∷ 5 ∷ 110 ∷ []) (0 ∷ 1 ∷ 109 ∷ 109 ∷ 0 ∷ 1 ∷ 1 ∷ 1 ∷ [])
    ∷ [])
    -- A with its body needs 6 bytes; 5 give 11
    ∷ one (put 23 (1 ∷ []) (5 ∷ []) (0 ∷ []) 5 11 [] ∷ put 23 (1 ∷ []) (5 ∷ []) (0 ∷ []) 6 0 (0xe5 ∷ []) ∷ [])
    -- 165 passes give 7; 164 are written, and read as 109 and 55
    ∷ one
    (put 23 (165 ∷ []) (copies 165 1) (copies 165 0) 200 7 []
    ∷ puts 23 (164 ∷ []) (copies 164 1) (copies 108 0 ++ 1 ∷ copies 55 0) (0xff ∷ 0x7f ∷ 0xf1 ∷ 0xb4 ∷ 0xdc ∷ [])
    ∷ get 23 1 (0xff ∷ 0x7f ∷ 0xf1 ∷ 0xb4 ∷ 0xdc ∷ []) (told 1 5 2) (1 ∷ 0 ∷ 5 ∷ 164 ∷ []) (0 ∷ 1 ∷ 109 ∷ 109 ∷ 0 ∷ 1 ∷ 55 ∷ 55 ∷ [])
    ∷ [])
    -- one pass read with increment 30 gives 9; with 29 its width is 32
    ∷ one
    (get 23 1 (0xef ∷ 0xff ∷ 0x7f ∷ 0xff ∷ 0x70 ∷ 0x00 ∷ 0x00 ∷ 0x00 ∷ 0x08 ∷ []) (no 9) [] []
    ∷ get 23 1 (0xef ∷ 0xff ∷ 0x7f ∷ 0xff ∷ 0x60 ∷ 0x00 ∷ 0x00 ∷ 0x00 ∷ 0x10 ∷ []) (told 1 9 1) (1 ∷ 0 ∷ 5 ∷ 1 ∷ []) (0 ∷ 1 ∷ 1 ∷ 1 ∷ [])
    ∷ [])
    ∷ []

-- ---- the refusals of start, each where every later one could be given too

abbrev starting : ℕ → ℕ → List Band → ℕ → List ℕ → ℕ → ℕ → Step
starting r n bs s ps lent why = starts (record { role = r; count = n; given = bs; style = s; planes = ps; lent = lent }) why

pub start-rows : List Row
start-rows =
    one
    ( -- 1: band count 0, band count 4, a side of 65 down or across
    starting 1 0 (band 1 1 999 ∷ []) 64 (6 ∷ []) 0 1
    ∷ starting 1 4 (replicate 4 (band 1 1 999)) 64 (6 ∷ []) 0 1
    ∷ starting 1 1 (band 1 65 999 ∷ []) 64 (6 ∷ []) 0 1
    ∷ starting 2 2 (band 1 1 5 ∷ band 65 1 999 ∷ []) 128 (6 ∷ []) 0 1
    -- 2: bit 0x40 or 0x80
    ∷ starting 1 1 (band 1 1 999 ∷ []) 64 (1000 ∷ []) 22 2
    ∷ starting 2 1 (band 1 1 999 ∷ []) 128 (1000 ∷ []) 22 2
    -- 3: state too short or too long, block planes too few or too many, block planes for a reader
    ∷ starting 1 1 (band 1 1 999 ∷ []) 63 (1000 ∷ []) 22 3
    ∷ starting 1 1 (band 1 1 999 ∷ []) 63 (1000 ∷ []) 24 3
    ∷ starting 1 1 (band 1 1 999 ∷ []) 63 [] 23 3
    ∷ starting 1 1 (band 1 1 999 ∷ []) 63 (1000 ∷ 1000 ∷ []) 23 3
    ∷ starting 2 1 (band 1 1 999 ∷ []) 63 (5 ∷ []) 23 3
    -- 4: a band above 998, also without blocks; a block above its band
    ∷ starting 1 1 (band 1 1 999 ∷ []) 63 (999 ∷ []) 23 4
    ∷ starting 2 1 (band 0 7 999 ∷ []) 63 [] 13 4
    ∷ starting 1 1 (band 1 1 5 ∷ []) 63 (6 ∷ []) 23 4
    -- accepted: the widest, the deepest; bands beyond the count are ignored
    ∷ starting 1 1 (band 1 1 998 ∷ band 65 65 999 ∷ []) 63 (998 ∷ []) 23 0
    ∷ starting 2 3 (band 64 1 0 ∷ band 0 64 998 ∷ band 0 0 0 ∷ []) 63 [] (13 + 6 * 127 + 4 * 64) 0
    ∷ [])
    ∷ []

-- ---- the refusals of writing and measuring, each where every later one could be given too

abbrev writing : ℕ → ℕ → List ℕ → List ℕ → List ℕ → ℕ → ℕ → List ℕ → Step
writing n body cs ls ms room why bytes =
    writes (record { contribution = contribution cs ls ms; markers = plain; number = 0; scratch = n; body = body; output = room })
    why bytes

-- a list too short, 165 passes, 2^31 bytes, a field of 39 bits, no body, no output
abbrev all_wrong : ℕ → ℕ → Step
all_wrong n why = writing n 0 (165 ∷ []) (2 ^ 31 ∷ []) [] 0 why []

pub write-rows : List Row
write-rows =
    one
    ( -- 5: a reader's state, a node out of range at the layer after the last, a scratch too short or too long
    loads_writer (words 2 0 0 fresh_included fresh_planes (block 0 0 0 0)) ∷ all_wrong 23 5
    ∷ loads_writer (words 1 0 65535 (node 0 1 2) (node 0 1 1) (block 1 32 0 0)) ∷ all_wrong 23 5
    ∷ loads_writer (wrote 65535 32) ∷ all_wrong 22 5 ∷ all_wrong 24 5
    -- 6
    ∷ all_wrong 23 6
    -- 3: lengths, marks, counts
    ∷ loads_writer (wrote 65534 32) ∷ all_wrong 23 3
    ∷ writing 23 0 (165 ∷ []) (2 ^ 31 ∷ copies 164 0) (copies 164 0) 0 3 []
    ∷ writing 23 0 (165 ∷ []) (2 ^ 31 ∷ copies 165 0) (copies 165 0) 0 3 []
    ∷ writing 23 0 (165 ∷ []) (2 ^ 31 ∷ copies 163 0) (copies 165 0) 0 3 []
    ∷ writing 23 0 (165 ∷ []) (2 ^ 31 ∷ copies 164 0) (copies 166 0) 0 3 []
    ∷ writing 23 0 (165 ∷ 0 ∷ []) (2 ^ 31 ∷ copies 164 0) (copies 165 0) 0 3 []
    ∷ writing 23 0 [] [] [] 0 3 []
    -- 7
    ∷ writing 23 0 (165 ∷ []) (2 ^ 31 ∷ copies 164 0) (copies 165 0) 0 7 []
    -- 8: in one pass, and in two that make one segment; apart they are shorter
    ∷ writing 23 0 (164 ∷ []) (2 ^ 31 ∷ copies 163 0) (copies 164 0) 0 8 []
    ∷ writing 23 0 (2 ∷ []) (2 ^ 30 ∷ 2 ^ 30 ∷ []) (0 ∷ 0 ∷ []) 0 8 []
    ∷ writing 23 0 (2 ∷ []) (2 ^ 30 ∷ 2 ^ 30 ∷ []) (1 ∷ 0 ∷ []) 0 10 []
    -- 9
    ∷ writing 23 0 (2 ∷ []) (1 ∷ 1 ∷ []) (0 ∷ 0 ∷ []) 0 9 []
    -- 10: too short, too long
    ∷ writing 23 0 (1 ∷ []) (1 ∷ []) (0 ∷ []) 0 10 []
    ∷ writing 23 2 (1 ∷ []) (1 ∷ []) (0 ∷ []) 0 10 []
    -- 11, and the packet
    ∷ writing 23 1 (1 ∷ []) (1 ∷ []) (0 ∷ []) 5 11 []
    ∷ writing 23 1 (1 ∷ []) (1 ∷ []) (0 ∷ []) 6 0 (0xc0 ∷ 0x00 ∷ 0x00 ∷ 0x00 ∷ 0x10 ∷ [])
    -- that was the last layer
    ∷ all_wrong 23 6
    ∷ [])
    -- 8 in any block comes before 9 in any: 32 length bits and two passes in the first, 2^31 bytes in the second
    ∷ precinct 2 0 (5 ∷ 5 ∷ [])
    (loads_writer (1 ∷ 1 ∷ 0 ∷ 1 ∷ 2 ∷ 1 ∷ 5 ∷ copies 6 0 ++ node 0 1 1 ++ node 0 1 1 ++ node 0 1 1 ++ node 0 1 1 ++ node 0 1 1 ++
    node 0 1 1 ++ block 1 32 0 0 ++ block 1 3 0 0)
    ∷ writing 39 0 (2 ∷ 1 ∷ []) (1 ∷ 1 ∷ 2 ^ 31 ∷ []) (0 ∷ 0 ∷ 0 ∷ []) 0 8 []
    ∷ writing 39 0 (2 ∷ 1 ∷ []) (1 ∷ 1 ∷ (2 ^ 31 - 1) ∷ []) (0 ∷ 0 ∷ 0 ∷ []) 0 9 []
    -- the segments of two blocks are two: 2^30 bytes each aren't 8
    ∷ writing 39 0 (1 ∷ 1 ∷ []) (2 ^ 30 ∷ 2 ^ 30 ∷ []) (0 ∷ 0 ∷ []) 0 10 []
    -- 2^30 bytes in each of two passes of the second block are, by its own marks
    ∷ writing 39 0 (1 ∷ 2 ∷ []) (1 ∷ 2 ^ 30 ∷ 2 ^ 30 ∷ []) (1 ∷ 0 ∷ 0 ∷ []) 0 8 []
    ∷ writing 39 0 (1 ∷ 2 ∷ []) (1 ∷ 2 ^ 30 ∷ 2 ^ 30 ∷ []) (0 ∷ 1 ∷ 0 ∷ []) 0 10 []
    -- 9 by the increment: 31 bits for the first segment, and two more for the four passes of the second
    ∷ writing 39 0 (0 ∷ 5 ∷ []) ((2 ^ 31 - 1) ∷ copies 4 0) (1 ∷ copies 4 0) 0 9 []
    ∷ writing 39 0 (0 ∷ 4 ∷ []) ((2 ^ 31 - 1) ∷ copies 3 0) (1 ∷ copies 3 0) 0 10 []
    ∷ [])
    -- a header too long to be built with its body: 2^31 - 1 bytes take 31 bits
    ∷ one
    (heads
    (record {
      contribution = contribution (1 ∷ []) ((2 ^ 31 - 1) ∷ []) (0 ∷ []);
      markers = plain;
      number = 0;
      scratch = 23;
      body = 0;
      output = 0;
    }) 0
    (0xef ∷ 0xff ∷ 0x7f ∷ 0xff ∷ 0x5f ∷ 0xff ∷ 0x7f ∷ 0xff ∷ 0x70 ∷ [])
    ∷ holds-writer (words 1 0 1 (node 0 0 1) (node 0 0 1) (block 1 31 0 0))
    ∷ [])
    ∷ []

-- ---- the refusals of reading

abbrev reading : ℕ → ℕ → ℕ → List ℕ → ℕ → Step
reading n reports records src why =
    reads (record { markers = plain; input = src; scratch = n; reports = reports; records = records }) (no why) [] []

-- one pass with an increment of 30, which gives 9
abbrev too_wide : List ℕ
too_wide = 0xef ∷ 0xff ∷ 0x7f ∷ 0xff ∷ 0x70 ∷ 0x00 ∷ []

-- three passes, a first field of 32 bits, and an end in FF
abbrev ends_in_ff_lem : List ℕ
ends_in_ff_lem = 0xf0 ∷ 0x00 ∷ 0xff ∷ 0x00 ∷ 0xff ∷ []

pub read-rows : List Row
read-rows =
    one
    ( -- 5: a writer's state, a block out of range at the layer after the last, a scratch too short or too long
    loads-reader (words 1 0 0 fresh_included fresh_planes (block 0 0 0 0)) ∷ reading 23 3 0 too_wide 5
    ∷ loads-reader (read_one 1 65535 33) ∷ reading 23 3 0 too_wide 5
    ∷ loads-reader (read_one 1 65535 32) ∷ reading 22 3 0 too_wide 5 ∷ reading 24 3 0 too_wide 5
    -- 6
    ∷ reading 23 3 0 too_wide 6
    -- 3
    ∷ loads-reader (words 2 0 0 fresh_included fresh_planes (block 0 0 0 0)) ∷ reading 23 3 0 too_wide 3 ∷ reading 23 5 0 too_wide 3
    -- 9 before 13 at a segment
    ∷ reading 23 4 0 too_wide 9
    ∷ reading 23 4 0 (0xe5 ∷ []) 13
    ∷ reading 23 4 3 (0xe5 ∷ []) 13
    -- 9 before 12: with 10, 2, 1 the second segment has two of three passes
    ∷ loads-reader (words 2 1 1 (node 0 1 0) (node 0 1 0) (block 9 32 10 9)) ∷ reading 23 4 20 ends_in_ff_lem 9
    -- 13 before 12: with one pass each there are three segments
    ∷ loads-reader (words 2 4 1 (node 0 1 0) (node 0 1 0) (block 9 32 1 1)) ∷ reading 23 4 4 ends_in_ff_lem 13
    -- 12, and with a byte more the packet: three passes in one segment with 31 length bits
    ∷ loads-reader (words 2 0 1 (node 0 1 0) (node 0 1 0) (block 9 31 109 9)) ∷ reading 23 4 4 ends_in_ff_lem 12
    ∷ reads (record { markers = plain; input = ends_in_ff_lem ++ 0x7f ∷ []; scratch = 23; reports = 4; records = 4 }) (told 1 6 1)
    (2 ∷ 0 ∷ 0 ∷ 3 ∷ []) (0 ∷ 0 ∷ 3 ∷ 0x7f80ff ∷ [])
    ∷ holds-reader (words 2 0 2 (node 0 1 0) (node 0 1 0) (block 12 31 109 12))
    ∷ [])
    -- 13 at a segment before 9 at a later one: the first block is A's, the second has an increment of 30
    ∷ precinct 2 0 (5 ∷ 5 ∷ [])
    (reading 39 8 0 (0xfc ∷ 0xae ∷ 0xff ∷ 0x7f ∷ 0xff ∷ 0x7f ∷ 0xff ∷ 0x00 ∷ []) 13
    ∷ reading 39 8 4 (0xfc ∷ 0xae ∷ 0xff ∷ 0x7f ∷ 0xff ∷ 0x7f ∷ 0xff ∷ 0x00 ∷ []) 9
    ∷ [])
    ∷ []

-- ---- the ranges of refusal 5: each state has one word out of range and is looked at by a call that has nothing else wrong

-- a state of n blocks by the role of a reader, 2, or a writer, 1: a read of the packet 80, which is present and in which no block is
-- included, or a write of a packet without passes, gives 5
abbrev looks : ℕ → ℕ → List ℕ → List Step
looks role n ws =
    let reads5 : List Step = loads-reader ws ∷ reading (length ws) (4 * n) 0 (0x80 ∷ []) 5 ∷ [] in
    let writes5 : List Step = loads_writer ws ∷ writing (length ws) 0 (copies n 0) [] [] 20 5 [] ∷ [] in
    cond (eqb role 2) reads5 writes5

-- or is accepted
abbrev accepts : ℕ → ℕ → List ℕ → List Step
accepts role n ws =
    let got : List Step = loads-reader ws ∷ get (length ws) n (0x80 ∷ []) (told 1 1 0) (copies (4 * n) 0) [] ∷ [] in
    let made : List Step = loads_writer ws ∷ puts_none (length ws) n ∷ [] in
    cond (eqb role 2) got made

abbrev steps_of : (List ℕ → List Step) → List (List ℕ) → List Step
steps_of f [] = []
steps_of f (ws ∷ l) = f ws ++ steps_of f l

-- v in place of the word that stands `off` words after each of these places
abbrev spoilt : List ℕ → ℕ → ℕ → List ℕ → List (List ℕ)
spoilt ws v off [] = []
spoilt ws v off (p ∷ ps) = set ws (p + off) v ∷ spoilt ws v off ps

-- a state without blocks: role, band count, style, next layer and the words of three bands
abbrev bare : ℕ → ℕ → ℕ → ℕ → List ℕ → List ℕ
bare role count style layer bands = role ∷ count ∷ style ∷ layer ∷ bands

-- sides and planes as large as they may be, in bands without blocks
abbrev largest : List ℕ
largest = 64 ∷ 0 ∷ 998 ∷ 0 ∷ 64 ∷ 998 ∷ 0 ∷ 0 ∷ 998 ∷ []

-- one, two and three bands at the last layer, with the largest style
abbrev one_used : ℕ → List ℕ
one_used role = bare role 1 63 65534 (64 ∷ 0 ∷ 998 ∷ copies 6 0)

abbrev two_used : ℕ → List ℕ
two_used role = bare role 2 63 65534 (64 ∷ 0 ∷ 998 ∷ 0 ∷ 64 ∷ 998 ∷ copies 3 0)

abbrev three_used : ℕ → List ℕ
three_used role = bare role 3 63 65534 largest

-- the largest words of a node in each tree, and of a block with passes, by limit and passes of its segment
abbrev full_included : List ℕ
full_included = node 65535 65535 1

abbrev full_planes : List ℕ
full_planes = node 999 999 1

abbrev full_block : ℕ → ℕ → List ℕ
full_block limit used = block 164 32 limit used

-- three bands at layer 1, of which one has two blocks in a row and the others none; its nodes are full and its blocks k
abbrev two_in : ℕ → List ℕ → List ℕ → List ℕ
two_in role bands k =
    role ∷ 3 ∷ 0 ∷ 1 ∷ bands ++ full_included ++ full_included ++ full_included ++ full_planes ++ full_planes ++ full_planes ++ k ++ k

abbrev first_band : List ℕ
first_band = 2 ∷ 1 ∷ 5 ∷ copies 6 0

abbrev second_band : List ℕ
second_band = copies 3 0 ++ 2 ∷ 1 ∷ 5 ∷ copies 3 0

abbrev third_band : List ℕ
third_band = copies 6 0 ++ 2 ∷ 1 ∷ 5 ∷ []

-- v in place of the words at these places of that band, whose words begin at 13; one state for each place and each band
abbrev in_each_band : ℕ → List ℕ → ℕ → List ℕ → List Step
in_each_band role k v places =
    steps_of (looks role 2) (spoilt (two_in role first_band k) v 13 places)
    ++ steps_of (looks role 2) (spoilt (two_in role second_band k) v 13 places)
    ++ steps_of (looks role 2) (spoilt (two_in role third_band k) v 13 places)

-- those states as they are
abbrev each_accepted : ℕ → List ℕ → List Step
each_accepted role k = steps_of (accepts role 2) (two_in role first_band k ∷ two_in role second_band k ∷ two_in role third_band k ∷ [])

-- three bands of one block, whose words begin at 13, 23 and 33
abbrev one_in_each : ℕ → List ℕ → List ℕ
one_in_each role k =
    let band_words_lem = full_included ++ full_planes ++ k in
    role ∷ 3 ∷ 0 ∷ 1 ∷ 1 ∷ 1 ∷ 5 ∷ 1 ∷ 1 ∷ 5 ∷ 1 ∷ 1 ∷ 5 ∷ band_words_lem ++ band_words_lem ++ band_words_lem

-- the states of one role that give 5: first words
abbrev first_words_out : ℕ → List Step
first_words_out role =
    steps_of (looks role 0)
    ( -- role, band count, style, next layer
    bare 0 1 0 0 (copies 9 0) ∷ bare 3 1 0 0 (copies 9 0) ∷ bare (3 - role) 1 0 0 (copies 9 0)
    ∷ bare role 0 0 0 (copies 9 0) ∷ bare role 4 0 0 (copies 9 0)
    ∷ bare role 1 64 0 (copies 9 0) ∷ bare role 1 256 0 (copies 9 0)
    ∷ bare role 1 0 65536 (copies 9 0)
    -- across and down of each band; its planes
    ∷ set (three_used role) 4 65 ∷ set (set (three_used role) 7 65) 8 0 ∷ set (three_used role) 10 65
    ∷ set (set (three_used role) 4 0) 5 65 ∷ set (three_used role) 8 65 ∷ set (three_used role) 11 65
    ∷ spoilt (three_used role) 999 6 (0 ∷ 3 ∷ 6 ∷ [])
    -- words of bands that aren't used
    ++ spoilt (one_used role) 1 0 (7 ∷ 8 ∷ 9 ∷ 10 ∷ 11 ∷ 12 ∷ []) ++ spoilt (two_used role) 1 0 (10 ∷ 11 ∷ 12 ∷ [])
    -- lengths: none, first words cut short, a word too few, a word too many
    ++ [] ∷ (role ∷ 1 ∷ []) ∷ bare role 1 0 0 (copies 8 0) ∷ bare role 1 0 0 (copies 10 0) ∷ [])

-- of both trees the value of the first node, and value, low and known of the last
abbrev nodes-out : ℕ → List Step
nodes-out role =
    in_each_band role (block 0 0 0 0) 65536 (0 ∷ 6 ∷ 7 ∷ [])
    ++ in_each_band role (block 0 0 0 0) 1000 (9 ∷ 15 ∷ 16 ∷ [])
    ++ in_each_band role (block 0 0 0 0) 2 (8 ∷ 17 ∷ [])

-- Of a block without passes length bits, limit and passes of a segment. Of blocks with passes, whose segment is as the role asks, more
-- than 164 passes and 33 length bits in the first and in the last; 0 and 2 length bits.
abbrev blocks-out : ℕ → ℕ → List Step
blocks-out role limit =
    in_each_band role (block 0 0 0 0) 3 (23 ∷ [])
    ++ in_each_band role (block 0 0 0 0) 109 (24 ∷ []) ++ in_each_band role (block 0 0 0 0) 1 (25 ∷ [])
    ++ in_each_band role (full_block limit limit) 165 (18 ∷ 22 ∷ [])
    ++ in_each_band role (full_block limit limit) 33 (19 ∷ 23 ∷ [])
    ++ in_each_band role (full_block limit limit) 0 (23 ∷ [])
    ++ in_each_band role (full_block limit limit) 2 (23 ∷ [])

-- in bands one after another: a node of each tree, a block
abbrev places_out : ℕ → ℕ → List Step
places_out role limit =
    steps_of (looks role 3)
    (spoilt (one_in_each role (full_block limit limit)) 65536 0 (13 ∷ 23 ∷ 33 ∷ [])
    ++ spoilt (one_in_each role (full_block limit limit)) 1000 0 (16 ∷ 26 ∷ 36 ∷ [])
    ++ spoilt (one_in_each role (full_block limit limit)) 165 0 (19 ∷ 29 ∷ 39 ∷ []))

pub range_rows : List Row
range_rows =
    one (first_words_out 2)
    ∷ one (first_words_out 1)
    ∷ one (nodes-out 2)
    ∷ one (nodes-out 1)
    ∷ one (blocks-out 2 109)
    ∷ one (blocks-out 1 0)
    ∷ one (places_out 2 109)
    ∷ one (places_out 1 0)
    -- limit and passes of the segment of a block with passes: no limit, a wrong limit, no passes, too many; in a writer, any
    ∷ one
    (in_each_band 2 (full_block 109 109) 0 (24 ∷ 25 ∷ [])
    ++ in_each_band 2 (full_block 109 1) 10 (24 ∷ [])
    ++ in_each_band 2 (full_block 109 109) 110 (25 ∷ [])
    ++ in_each_band 1 (full_block 0 0) 109 (24 ∷ [])
    ++ in_each_band 1 (full_block 0 0) 1 (25 ∷ []))
    -- one block: limits that a style doesn't give; passes at layer 0; a word too few, a word too many, another geometry
    ∷ one
    (steps_of (looks 2 1)
    (words 2 0 1 (node 0 1 0) (node 0 1 0) (block 1 3 1 1) ∷ words 2 0 1 (node 0 1 0) (node 0 1 0) (block 1 3 2 1)
    ∷ words 2 1 1 (node 0 1 0) (node 0 1 0) (block 1 3 109 1) ∷ words 2 1 1 (node 0 1 0) (node 0 1 0) (block 1 3 3 1)
    ∷ words 2 4 1 (node 0 1 0) (node 0 1 0) (block 1 3 109 1) ∷ words 2 5 1 (node 0 1 0) (node 0 1 0) (block 1 3 10 1)
    ∷ words 2 5 1 (node 0 1 0) (node 0 1 0) (block 1 3 2 1) ∷ words 2 4 1 (node 0 1 0) (node 0 1 0) (block 1 3 1 2)
    ∷ words 2 0 0 (node 0 1 0) (node 0 1 0) (block 1 3 109 1)
    ∷ words 2 0 0 fresh_included fresh_planes (copies 3 0) ∷ words 2 0 0 fresh_included fresh_planes (copies 5 0)
    ∷ set (unread 0) 4 2
    ∷ [])
    ++ steps_of (looks 1 1)
    (words 1 0 0 (node 0 1 1) (node 0 1 1) (block 1 3 0 0)
    ∷ words 1 0 0 fresh_included fresh_planes (copies 3 0) ∷ words 1 0 0 fresh_included fresh_planes (copies 5 0)
    ∷ set (words 1 0 0 fresh_included fresh_planes (block 0 0 0 0)) 4 2
    ∷ []))
    -- in range: what the states above have besides, each limit that a style gives, and the largest words
    ∷ one
    (steps_of (accepts 2 0) (bare 2 1 0 0 (copies 9 0) ∷ one_used 2 ∷ two_used 2 ∷ three_used 2 ∷ [])
    ++ each_accepted 2 (block 0 0 0 0) ++ each_accepted 2 (full_block 109 109) ++ each_accepted 2
    (full_block 109 1)
    ++ accepts 2 3 (one_in_each 2 (full_block 109 109))
    ++ steps_of (accepts 2 1)
    (words 2 63 65534 full_included full_planes (block 0 0 0 0)
    ∷ words 2 0 2 (node 0 1 1) (node 0 1 1) (block 328 3 109 1)
    ∷ words 2 1 2 (node 0 1 1) (node 0 1 1) (block 328 32 10 10)
    ∷ words 2 1 2 (node 0 1 1) (node 0 1 1) (block 328 32 2 2)
    ∷ words 2 1 2 (node 0 1 1) (node 0 1 1) (block 328 32 1 1)
    ∷ words 2 4 2 (node 0 1 1) (node 0 1 1) (block 328 32 1 1)
    ∷ words 2 5 2 (node 0 1 1) (node 0 1 1) (block 328 32 1 1)
    ∷ []))
    ∷ one
    (steps_of (accepts 1 0) (bare 1 1 0 0 (copies 9 0) ∷ one_used 1 ∷ two_used 1 ∷ three_used 1 ∷ [])
    ++ each_accepted 1 (block 0 0 0 0) ++ each_accepted 1 (full_block 0 0)
    ++ accepts 1 3 (one_in_each 1 (full_block 0 0))
    ++ steps_of (accepts 1 1)
    (words 1 63 65534 full_included full_planes (block 0 0 0 0)
    ∷ words 1 0 2 (node 0 1 1) (node 0 1 1) (block 328 3 0 0)
    ∷ []))
    ∷ []

-- ---- markers, in a precinct without blocks: its header is one bit

abbrev sop_only : Markers
sop_only = record { sop = true; eph = false }

abbrev eph_only : Markers
eph_only = record { sop = false; eph = true }

-- a read with these markers: present, bytes taken, SOP mark, EPH mark; bits past the end
abbrev scans_past : Markers → List ℕ → ℕ → ℕ → ℕ → ℕ → ℕ → Step
scans_past m src present taken sop eph past =
    reads (record { markers = m; input = src; scratch = 13; reports = 0; records = 0 })
    (0 ∷ present ∷ taken ∷ 0 ∷ sop ∷ eph ∷ past ∷ []) [] []

abbrev scans : Markers → List ℕ → ℕ → ℕ → ℕ → ℕ → Step
scans m src present taken sop eph = scans_past m src present taken sop eph 0

abbrev stamps : Markers → ℕ → List ℕ → Step
stamps m number bytes =
    writes (record { contribution = contribution [] [] []; markers = m; number = number; scratch = 13; body = 0; output = 9 }) 0 bytes

pub marker_rows : List Row
marker_rows =
    record {
      given = band 0 0 5 ∷ [];
      planes = [];
      style = 0;
      steps =
          -- no, one or both markers; the low 16 bits of the number
          stamps plain 0x12345678 (0x00 ∷ [])
          ∷ stamps sop_only 0x12345678 (0xff ∷ 0x91 ∷ 0x00 ∷ 0x04 ∷ 0x56 ∷ 0x78 ∷ 0x00 ∷ [])
          ∷ stamps eph_only 0x12345678 (0x00 ∷ 0xff ∷ 0x92 ∷ [])
          ∷ stamps marked 0x12345678 (0xff ∷ 0x91 ∷ 0x00 ∷ 0x04 ∷ 0x56 ∷ 0x78 ∷ 0x00 ∷ 0xff ∷ 0x92 ∷ [])
          ∷ [];
    }
    ∷ record {
      given = band 0 0 5 ∷ [];
      planes = [];
      style = 0;
      steps =
          -- SOP with 6 bytes left and more, whatever its last four are; with 0 to 5 bytes left, where what is there is the header
          scans_past sop_only (0xff ∷ 0x91 ∷ 0x00 ∷ 0x04 ∷ 0x00 ∷ 0x00 ∷ []) 0 6 0 0 1
          ∷ scans sop_only (0xff ∷ 0x91 ∷ 0x07 ∷ 0x07 ∷ 0x07 ∷ 0x07 ∷ 0x80 ∷ []) 1 7 0 0
          ∷ scans_past sop_only [] 0 0 1 0 1
          ∷ reads (record { markers = sop_only; input = 0xff ∷ []; scratch = 13; reports = 0; records = 0 }) (no 12) [] []
          ∷ scans sop_only (0xff ∷ 0x91 ∷ []) 1 2 1 0
          ∷ scans sop_only (0xff ∷ 0x91 ∷ 0x00 ∷ []) 1 2 1 0
          ∷ scans sop_only (0xff ∷ 0x91 ∷ 0x00 ∷ 0x04 ∷ []) 1 2 1 0
          ∷ scans sop_only (0xff ∷ 0x91 ∷ 0x00 ∷ 0x04 ∷ 0x00 ∷ []) 1 2 1 0
          -- another second byte, another first byte, a marker that isn't used
          ∷ scans sop_only (0xff ∷ 0x92 ∷ 0x00 ∷ 0x04 ∷ 0x00 ∷ 0x00 ∷ []) 1 2 2 0
          ∷ scans sop_only (0xfe ∷ 0x91 ∷ 0x00 ∷ 0x04 ∷ 0x00 ∷ 0x00 ∷ []) 1 1 2 0
          ∷ scans eph_only (0xff ∷ 0x91 ∷ 0x00 ∷ 0x04 ∷ 0x00 ∷ 0x00 ∷ []) 1 2 0 2
          -- EPH with 2 bytes left, after a header's byte FF too; with 0 and 1 bytes left
          ∷ scans eph_only (0x80 ∷ 0xff ∷ 0x92 ∷ []) 1 3 0 0
          ∷ scans eph_only (0xff ∷ 0x7f ∷ 0xff ∷ 0x92 ∷ []) 1 4 0 0
          ∷ scans eph_only (0x80 ∷ []) 1 1 0 1
          ∷ scans eph_only (0x80 ∷ 0xff ∷ []) 1 1 0 1
          -- another second byte, another first byte, a marker that isn't used
          ∷ scans eph_only (0x80 ∷ 0xff ∷ 0x91 ∷ []) 1 1 0 2
          ∷ scans eph_only (0x80 ∷ 0xfe ∷ 0x92 ∷ []) 1 1 0 2
          ∷ scans sop_only (0x80 ∷ 0xff ∷ 0x92 ∷ []) 1 1 1 0
          -- both marks: SOP's first; of an absent packet too
          ∷ scans marked (0x80 ∷ 0x07 ∷ 0x07 ∷ []) 1 1 1 2
          ∷ scans marked (0x00 ∷ 0x07 ∷ 0x07 ∷ []) 0 1 1 2
          ∷ scans marked (0x00 ∷ []) 0 1 1 1
          ∷ scans marked (0xff ∷ 0x91 ∷ 0x00 ∷ 0x04 ∷ 0x00 ∷ 0x00 ∷ 0x00 ∷ 0xff ∷ []) 0 7 0 1
          ∷ [];
    }
    -- an absent packet moves the next layer, and no other word
    ∷ one
    (loads-reader (read_one 0 65534 32)
    ∷ reads (record { markers = marked; input = 0x00 ∷ 0x07 ∷ 0x07 ∷ []; scratch = 23; reports = 4; records = 4 })
    (0 ∷ 0 ∷ 1 ∷ 0 ∷ 1 ∷ 2 ∷ 0 ∷ []) (copies 4 0) []
    ∷ holds-reader (read_one 0 65535 32)
    ∷ [])
    ∷ []

-- ---- the slips that lie near, and other corners

-- a reader of two blocks in a row: zero planes 0 in the first leaf, below a root of value v
abbrev odd_planes : ℕ → List ℕ
odd_planes v =
    2 ∷ 1 ∷ 0 ∷ 0 ∷ 2 ∷ 1 ∷ 5 ∷ copies 6 0 ++ fresh_included ++ fresh_included ++ fresh_included ++ node 0 0 0 ++ fresh_planes ++
    node v 0 0 ++ copies 8 0

pub slip_rows : List Row
slip_rows =
    -- zero planes counted from the threshold, one too many: 3 zero planes are three 0 and a 1
    record {
      given = band 1 1 5 ∷ [];
      planes = 2 ∷ [];
      style = 0;
      steps = puts 23 (1 ∷ []) (5 ∷ []) (0 ∷ []) (0xc4 ∷ 0xa0 ∷ []) ∷ get 23 1 (0xc4 ∷ 0xa0 ∷ []) (told 1 2 1) (1 ∷ 3 ∷ 2 ∷ 1 ∷ [])
          (0 ∷ 1 ∷ 1 ∷ 5 ∷ []) ∷ [];
    }
    -- widths from all passes of the block: C twice, the second field as wide as the first
    ∷ one
    (puts 23 (2 ∷ []) (lengths 2 15) (0 ∷ 0 ∷ []) (0xf3 ∷ 0xc0 ∷ [])
    ∷ puts 23 (2 ∷ []) (lengths 2 15) (0 ∷ 0 ∷ []) (0xe7 ∷ 0x80 ∷ [])
    ∷ get 23 1 (0xf3 ∷ 0xc0 ∷ []) (told 1 2 1) (1 ∷ 0 ∷ 5 ∷ 2 ∷ []) (0 ∷ 1 ∷ 2 ∷ 15 ∷ [])
    ∷ get 23 1 (0xe7 ∷ 0x80 ∷ []) (told 1 2 1) (2 ∷ 0 ∷ 0 ∷ 2 ∷ []) (0 ∷ 0 ∷ 2 ∷ 15 ∷ [])
    ∷ [])
    -- length bits set back to 3 each layer: B, then 5 bytes in the 4 bits that B left
    ∷ one
    (puts 23 (1 ∷ []) (8 ∷ []) (0 ∷ []) (0xea ∷ 0x00 ∷ [])
    ∷ puts 23 (1 ∷ []) (5 ∷ []) (0 ∷ []) (0xc5 ∷ [])
    ∷ get 23 1 (0xea ∷ 0x00 ∷ []) (told 1 2 1) (1 ∷ 0 ∷ 5 ∷ 1 ∷ []) (0 ∷ 1 ∷ 1 ∷ 8 ∷ [])
    ∷ get 23 1 (0xc5 ∷ []) (told 1 1 1) (2 ∷ 0 ∷ 0 ∷ 1 ∷ []) (0 ∷ 0 ∷ 1 ∷ 5 ∷ [])
    ∷ [])
    -- no 00 after a last FF: E, again, with EPH after it
    ∷ one
    (writes
    (record {
      contribution = contribution (16 ∷ []) (lengths 16 511) (copies 16 0);
      markers = record { sop = false; eph = true };
      number = 0;
      scratch = 23;
      body = 511;
      output = 517;
    }) 0
    (0xfe ∷ 0xad ∷ 0xff ∷ 0x00 ∷ 0xff ∷ 0x92 ∷ [])
    ∷ [])
    -- a missing marker treated as a refusal: A without markers where both are used, alone and with bytes after it; a half marker
    ∷ one
    (reads (record { markers = marked; input = 0xe5 ∷ []; scratch = 23; reports = 4; records = 4 }) (0 ∷ 1 ∷ 1 ∷ 1 ∷ 1 ∷ 1 ∷ 0 ∷ [])
    (1 ∷ 0 ∷ 5 ∷ 1 ∷ []) (0 ∷ 1 ∷ 1 ∷ 5 ∷ []) ∷ [])
    ∷ one
    (reads (record { markers = marked; input = 0xe5 ∷ copies 5 7; scratch = 23; reports = 4; records = 4 })
    (0 ∷ 1 ∷ 1 ∷ 1 ∷ 2 ∷ 2 ∷ 0 ∷ []) (1 ∷ 0 ∷ 5 ∷ 1 ∷ []) (0 ∷ 1 ∷ 1 ∷ 5 ∷ []) ∷ [])
    ∷ one
    (reads
    (record { markers = record { sop = false; eph = true }; input = 0xe5 ∷ 0xff ∷ []; scratch = 23; reports = 4; records = 4 })
    (0 ∷ 1 ∷ 1 ∷ 1 ∷ 0 ∷ 1 ∷ 0 ∷ []) (1 ∷ 0 ∷ 5 ∷ 1 ∷ []) (0 ∷ 1 ∷ 1 ∷ 5 ∷ []) ∷ [])
    -- an absent packet between its markers
    ∷ one
    (reads
    (record {
      markers = marked;
      input = 0xff ∷ 0x91 ∷ 0x00 ∷ 0x04 ∷ 0x00 ∷ 0x00 ∷ 0x00 ∷ 0xff ∷ 0x92 ∷ [];
      scratch = 23;
      reports = 4;
      records = 4;
    }) (told 0 9 0) (copies 4 0) [] ∷ [])
    -- a length of 0 takes one bit, and so no increment
    ∷ one (both 1 0 (0xe0 ∷ []))
    -- six zero planes read in a band of five: the block's planes wrap
    ∷ one (get 23 1 (0xc0 ∷ 0x85 ∷ []) (told 1 2 1) (1 ∷ 6 ∷ (2 ^ 32 - 1) ∷ 1 ∷ []) (0 ∷ 1 ∷ 1 ∷ 1 ∷ []) ∷ [])
    -- a header that ends with the input, and one that goes on past the end, where it reads zeros
    ∷ one (get 23 1 (0xe0 ∷ []) (told 1 1 1) (1 ∷ 0 ∷ 5 ∷ 1 ∷ []) (0 ∷ 1 ∷ 1 ∷ 0 ∷ []) ∷ [])
    ∷ one (get 23 1 (0xea ∷ []) (told-past 1 1 1 2) (1 ∷ 0 ∷ 5 ∷ 1 ∷ []) (0 ∷ 1 ∷ 1 ∷ 8 ∷ []) ∷ [])
    -- three bands, the second without blocks: blocks are numbered through
    ∷ record {
      given = band 1 1 5 ∷ band 0 3 7 ∷ band 1 1 6 ∷ [];
      planes = 5 ∷ 6 ∷ [];
      style = 4;
      steps =
          puts 33 (1 ∷ 2 ∷ []) (5 ∷ 1 ∷ 2 ∷ []) (0 ∷ 1 ∷ 0 ∷ []) (0xe5 ∷ 0xe1 ∷ 0x40 ∷ [])
          ∷ get 33 2 (0xe5 ∷ 0xe1 ∷ 0x40 ∷ []) (told 1 3 3) (1 ∷ 0 ∷ 5 ∷ 1 ∷ 1 ∷ 0 ∷ 6 ∷ 2 ∷ [])
          (0 ∷ 1 ∷ 1 ∷ 5 ∷ 1 ∷ 1 ∷ 1 ∷ 1 ∷ 1 ∷ 1 ∷ 1 ∷ 2 ∷ [])
          ∷ [];
    }
    -- a state at layer 0 is taken as it is, where the crate would reset its trees
    ∷ one
    (loads_writer (words 1 0 0 (node 0 0 1) (node 0 0 1) (block 0 0 0 0)) ∷ puts 23 (1 ∷ []) (5 ∷ []) (0 ∷ []) (0x94 ∷ [])
    ∷ loads-reader (words 2 0 0 (node 0 0 1) (node 0 0 1) (block 0 0 0 0)) ∷ get 23 1 (0x94 ∷ []) (told 1 1 1) (1 ∷ 0 ∷ 5 ∷ 1 ∷ [])
    (0 ∷ 1 ∷ 1 ∷ 5 ∷ [])
    ∷ [])
    -- three passes after nine with limits 10, 2, 1: one fills the open segment, two the next
    ∷ precinct 1 1 (5 ∷ [])
    (loads-reader (words 2 1 1 (node 0 1 0) (node 0 1 0) (block 9 3 10 9))
    ∷ get 23 1 (0xf0 ∷ 0x48 ∷ []) (told 1 2 2) (2 ∷ 0 ∷ 0 ∷ 3 ∷ []) (0 ∷ 0 ∷ 1 ∷ 1 ∷ 0 ∷ 1 ∷ 2 ∷ 2 ∷ [])
    ∷ holds-reader (words 2 1 2 (node 0 1 0) (node 0 1 0) (block 12 3 2 2))
    ∷ loads_writer (words 1 1 1 (node 0 1 1) (node 0 1 1) (block 9 3 0 0))
    ∷ puts 23 (3 ∷ []) (1 ∷ 1 ∷ 1 ∷ []) (1 ∷ 0 ∷ 0 ∷ []) (0xf0 ∷ 0x48 ∷ [])
    ∷ holds-writer (words 1 1 2 (node 0 1 1) (node 0 1 1) (block 12 3 0 0))
    ∷ [])
    -- trees of three levels, three by two blocks and two by three: blocks come in different layers with different zero planes
    ∷ record {
      given = band 3 2 5 ∷ [];
      planes = 3 ∷ 5 ∷ 1 ∷ 4 ∷ 2 ∷ 0 ∷ [];
      style = 0;
      steps =
          puts 91 (0 ∷ 1 ∷ 0 ∷ 0 ∷ 0 ∷ 1 ∷ []) (5 ∷ 1 ∷ []) (0 ∷ 0 ∷ []) (0xef ∷ 0x2c ∷ 0x42 ∷ 0x84 ∷ [])
          ∷ get 91 6 (0xef ∷ 0x2c ∷ 0x42 ∷ 0x84 ∷ []) (told 1 4 2)
          (0 ∷ 0 ∷ 0 ∷ 0 ∷ 1 ∷ 0 ∷ 5 ∷ 1 ∷ 0 ∷ 0 ∷ 0 ∷ 0 ∷ 0 ∷ 0 ∷ 0 ∷ 0 ∷ 0 ∷ 0 ∷ 0 ∷ 0 ∷ 1 ∷ 5 ∷ 0 ∷ 1 ∷ [])
          (1 ∷ 1 ∷ 1 ∷ 5 ∷ 5 ∷ 1 ∷ 1 ∷ 1 ∷ [])
          ∷ puts 91 (1 ∷ 2 ∷ 0 ∷ 1 ∷ 0 ∷ 1 ∷ []) (3 ∷ 4 ∷ 4 ∷ 9 ∷ 0 ∷ []) (0 ∷ 0 ∷ 0 ∷ 0 ∷ 0 ∷ []) (0xc8 ∷ 0xf2 ∷ 0x15 ∷ 0x4a ∷ 0x00 ∷ [])
          ∷ get 91 6 (0xc8 ∷ 0xf2 ∷ 0x15 ∷ 0x4a ∷ 0x00 ∷ []) (told 1 5 4)
          (1 ∷ 2 ∷ 3 ∷ 1 ∷ 2 ∷ 0 ∷ 0 ∷ 2 ∷ 0 ∷ 0 ∷ 0 ∷ 0 ∷ 1 ∷ 1 ∷ 4 ∷ 1 ∷ 0 ∷ 0 ∷ 0 ∷ 0 ∷ 2 ∷ 0 ∷ 0 ∷ 1 ∷ [])
          (0 ∷ 1 ∷ 1 ∷ 3 ∷ 1 ∷ 0 ∷ 2 ∷ 8 ∷ 3 ∷ 1 ∷ 1 ∷ 9 ∷ 5 ∷ 0 ∷ 1 ∷ 0 ∷ [])
          ∷ [];
    }
    ∷ record {
      given = band 2 3 5 ∷ [];
      planes = 3 ∷ 5 ∷ 1 ∷ 4 ∷ 2 ∷ 0 ∷ [];
      style = 0;
      steps =
          puts 91 (0 ∷ 1 ∷ 0 ∷ 1 ∷ 1 ∷ 0 ∷ []) (5 ∷ 1 ∷ 8 ∷ []) (0 ∷ 0 ∷ 0 ∷ []) (0xef ∷ 0x2a ∷ 0x87 ∷ 0x1a ∷ 0x80 ∷ [])
          ∷ get 91 6 (0xef ∷ 0x2a ∷ 0x87 ∷ 0x1a ∷ 0x80 ∷ []) (told 1 5 3)
          (0 ∷ 0 ∷ 0 ∷ 0 ∷ 1 ∷ 0 ∷ 5 ∷ 1 ∷ 0 ∷ 0 ∷ 0 ∷ 0 ∷ 1 ∷ 1 ∷ 4 ∷ 1 ∷ 1 ∷ 3 ∷ 2 ∷ 1 ∷ 0 ∷ 0 ∷ 0 ∷ 0 ∷ [])
          (1 ∷ 1 ∷ 1 ∷ 5 ∷ 3 ∷ 1 ∷ 1 ∷ 1 ∷ 4 ∷ 1 ∷ 1 ∷ 8 ∷ [])
          ∷ [];
    }
    -- zero planes read with one threshold for all, or with the root's value: of a root whose value isn't known, or is 3 and not yet read,
    -- over a leaf whose value is 0, one bit is read and not four or three
    ∷ precinct 2 0 (5 ∷ 5 ∷ [])
    (loads-reader (odd_planes not_yet_planes)
    ∷ get 39 2 (0xe2 ∷ 0x80 ∷ []) (told 1 2 1) (1 ∷ 0 ∷ 5 ∷ 1 ∷ 0 ∷ 0 ∷ 0 ∷ 0 ∷ []) (0 ∷ 1 ∷ 1 ∷ 5 ∷ [])
    ∷ loads-reader (odd_planes 3)
    ∷ get 39 2 (0xe2 ∷ 0x80 ∷ []) (told 1 2 1) (1 ∷ 0 ∷ 5 ∷ 1 ∷ 0 ∷ 0 ∷ 0 ∷ 0 ∷ []) (0 ∷ 1 ∷ 1 ∷ 5 ∷ [])
    ∷ [])
    -- zero planes written with the threshold 999: of a leaf whose value is 999, one 0 from low 998 on, and no 1
    ∷ one
    (loads_writer (words 1 0 0 (node 0 0 1) (node 999 998 0) (block 0 0 0 0)) ∷ puts 23 (1 ∷ []) (5 ∷ []) (0 ∷ []) (0x8a ∷ [])
    ∷ holds-writer (words 1 0 1 (node 0 0 1) (node 999 999 0) (block 1 3 0 0))
    ∷ [])
    -- setting a leaf ends at the first value that isn't above: a leaf of value 0 leaves the root's "not yet", and at layer 0 that is one 0
    ∷ precinct 2 0 (5 ∷ 5 ∷ [])
    (loads_writer (1 ∷ 1 ∷ 0 ∷ 0 ∷ 2 ∷ 1 ∷ 5 ∷ copies 6 0 ++ node 0 0 0 ++ fresh_included ++ fresh_included ++ copies 9 0 ++ copies 8 0)
    ∷ puts 39 (1 ∷ 0 ∷ []) (5 ∷ []) (0 ∷ []) (0xb2 ∷ 0x80 ∷ [])
    ∷ [])
    -- a precinct without blocks
    ∷ record {
      given = band 0 0 5 ∷ [];
      planes = [];
      style = 0;
      steps = puts_none 13 0 ∷ gets_none 13 0 ∷ get 13 0 (0x80 ∷ []) (told 1 1 0) [] [] ∷ [];
    }
    ∷ []

-- ---- where segments begin

-- a read of k blocks with n scratch words and six records, which begin there
abbrev get_from : ℕ → ℕ → List ℕ → List ℕ → List ℕ → List ℕ → List ℕ → Step
get_from n k src answer reports records begins =
    reads_starts (record { markers = plain; input = src; scratch = n; reports = 4 * k; records = 24 }) answer reports records begins

-- two blocks with every pass terminated: 5, 0 and 7 bytes, 1 and 2 bytes
abbrev five_segments : List ℕ
five_segments = 0xfe ∷ 0x28 ∷ 0xf6 ∷ 0x14 ∷ []

pub segment-rows : List Row
segment-rows =
    -- the second block's behind all of the first's
    precinct 2 0 (5 ∷ 4 ∷ [])
    (puts 39 (3 ∷ 2 ∷ []) (2 ∷ 2 ∷ 1 ∷ 3 ∷ 4 ∷ []) (copies 5 0) (0xfe ∷ 0x16 ∷ 0xc7 ∷ [])
    ∷ get_from 39 2 (0xfe ∷ 0x16 ∷ 0xc7 ∷ []) (told 1 3 2) (1 ∷ 0 ∷ 5 ∷ 3 ∷ 1 ∷ 1 ∷ 4 ∷ 2 ∷ [])
    (0 ∷ 1 ∷ 3 ∷ 5 ∷ 1 ∷ 1 ∷ 2 ∷ 7 ∷ []) (0 ∷ 5 ∷ [])
    ∷ [])
    -- a segment of no bytes, and a second layer, whose packet has a body of its own
    ∷ precinct 2 4 (5 ∷ 4 ∷ [])
    (puts 39 (3 ∷ 2 ∷ []) (5 ∷ 0 ∷ 7 ∷ 1 ∷ 2 ∷ []) (copies 5 1) five_segments
    ∷ puts 39 (1 ∷ 2 ∷ []) (4 ∷ 3 ∷ 6 ∷ []) (copies 3 1) (0xc9 ∷ 0x8f ∷ 0x00 ∷ [])
    ∷ get_from 39 2 five_segments (told 1 4 5) (1 ∷ 0 ∷ 5 ∷ 3 ∷ 1 ∷ 1 ∷ 4 ∷ 2 ∷ [])
    (0 ∷ 1 ∷ 1 ∷ 5 ∷ 0 ∷ 1 ∷ 1 ∷ 0 ∷ 0 ∷ 1 ∷ 1 ∷ 7 ∷ 1 ∷ 1 ∷ 1 ∷ 1 ∷ 1 ∷ 1 ∷ 1 ∷ 2 ∷ []) (0 ∷ 5 ∷ 5 ∷ 12 ∷ 13 ∷ [])
    ∷ get_from 39 2 (0xc9 ∷ 0x8f ∷ 0x00 ∷ []) (told 1 3 3) (2 ∷ 0 ∷ 0 ∷ 1 ∷ 2 ∷ 0 ∷ 0 ∷ 2 ∷ [])
    (0 ∷ 1 ∷ 1 ∷ 4 ∷ 1 ∷ 1 ∷ 1 ∷ 3 ∷ 1 ∷ 1 ∷ 1 ∷ 6 ∷ []) (0 ∷ 4 ∷ 7 ∷ [])
    ∷ [])
    -- segments that go on from layer 0 into layer 1
    ∷ precinct 2 1 (5 ∷ 5 ∷ [])
    (puts 39 (11 ∷ 1 ∷ []) (copies 11 1 ++ 9 ∷ []) (copies 9 0 ++ 1 ∷ 0 ∷ 0 ∷ []) (0xff ∷ 0x4a ∷ 0x28 ∷ 0xea ∷ 0x40 ∷ [])
    ∷ puts 39 (2 ∷ 12 ∷ []) (3 ∷ 4 ∷ copies 12 2) (1 ∷ 0 ∷ copies 8 0 ++ 1 ∷ 0 ∷ 1 ∷ 0 ∷ []) (0xe3 ∷ 0x9f ∷ 0x30 ∷ 0x91 ∷ 0x08 ∷ [])
    ∷ get_from 39 2 (0xff ∷ 0x4a ∷ 0x28 ∷ 0xea ∷ 0x40 ∷ []) (told 1 5 3) (1 ∷ 0 ∷ 5 ∷ 11 ∷ 1 ∷ 0 ∷ 5 ∷ 1 ∷ [])
    (0 ∷ 1 ∷ 10 ∷ 10 ∷ 0 ∷ 1 ∷ 1 ∷ 1 ∷ 1 ∷ 1 ∷ 1 ∷ 9 ∷ []) (0 ∷ 10 ∷ 11 ∷ [])
    ∷ get_from 39 2 (0xe3 ∷ 0x9f ∷ 0x30 ∷ 0x91 ∷ 0x08 ∷ []) (told 1 5 5) (2 ∷ 0 ∷ 0 ∷ 2 ∷ 2 ∷ 0 ∷ 0 ∷ 12 ∷ [])
    (0 ∷ 0 ∷ 1 ∷ 3 ∷ 0 ∷ 1 ∷ 1 ∷ 4 ∷ 1 ∷ 0 ∷ 9 ∷ 18 ∷ 1 ∷ 1 ∷ 2 ∷ 4 ∷ 1 ∷ 1 ∷ 1 ∷ 2 ∷ []) (0 ∷ 3 ∷ 7 ∷ 25 ∷ 29 ∷ [])
    ∷ [])
    -- the longest lengths: the sum passes 2^32, in one block and in two
    ∷ precinct 1 4 (5 ∷ [])
    (get_from 23 1
    (0xf9 ∷ 0xff ∷ 0x7f ∷ 0xff ∷ 0x7d ∷ 0xff ∷ 0x7f ∷ 0xff ∷ 0x7f ∷ 0xff ∷ 0x7f ∷ 0xff ∷ 0x7f ∷ 0xc0 ∷ 0x00 ∷ 0x00 ∷ 0x00 ∷ 0xa0 ∷ [])
    (told 1 18 3) (1 ∷ 0 ∷ 5 ∷ 3 ∷ [])
    (0 ∷ 1 ∷ 1 ∷ (2 ^ 32 - 1) ∷ 0 ∷ 1 ∷ 1 ∷ (2 ^ 32 - 2) ∷ 0 ∷ 1 ∷ 1 ∷ 5 ∷ []) (0 ∷ 4294967295 ∷ 8589934589 ∷ [])
    ∷ [])
    ∷ precinct 2 0 (5 ∷ 5 ∷ [])
    (get_from 39 2
    (0xfb ∷ 0xff ∷ 0x7f ∷ 0xff ∷ 0x7b ∷ 0xff ∷ 0x7f ∷ 0xff ∷ 0x7f ∷ 0xdf ∷ 0xff ∷ 0x7f ∷ 0xff ∷ 0x5f ∷ 0xff ∷ 0x7f ∷ 0xff ∷ 0x78 ∷ [])
    (told 1 18 2) (1 ∷ 0 ∷ 5 ∷ 1 ∷ 1 ∷ 0 ∷ 5 ∷ 1 ∷ [])
    (0 ∷ 1 ∷ 1 ∷ (2 ^ 32 - 1) ∷ 1 ∷ 1 ∷ 1 ∷ (2 ^ 32 - 1) ∷ []) (0 ∷ 4294967295 ∷ [])
    ∷ [])
    -- markers are no bytes of the body
    ∷ precinct 2 4 (5 ∷ 4 ∷ [])
    (reads_starts
    (record {
      markers = marked;
      input = 0xff ∷ 0x91 ∷ 0x00 ∷ 0x04 ∷ 0x00 ∷ 0x00 ∷ five_segments ++ 0xff ∷ 0x92 ∷ copies 15 7;
      scratch = 39;
      reports = 8;
      records = 20;
    })
    (told 1 12 5) (1 ∷ 0 ∷ 5 ∷ 3 ∷ 1 ∷ 1 ∷ 4 ∷ 2 ∷ [])
    (0 ∷ 1 ∷ 1 ∷ 5 ∷ 0 ∷ 1 ∷ 1 ∷ 0 ∷ 0 ∷ 1 ∷ 1 ∷ 7 ∷ 1 ∷ 1 ∷ 1 ∷ 1 ∷ 1 ∷ 1 ∷ 1 ∷ 2 ∷ []) (0 ∷ 5 ∷ 5 ∷ 12 ∷ 13 ∷ [])
    ∷ [])
    -- refused once some were found, by 13, by 9 in the second block, and by 12 behind both: none is left
    ∷ precinct 2 4 (5 ∷ 4 ∷ []) (reading 39 8 16 five_segments 13 ∷ [])
    ∷ precinct 2 0 (5 ∷ 5 ∷ [])
    (reading 39 8 24 (0xf9 ∷ 0x77 ∷ 0xff ∷ 0x7f ∷ 0xff ∷ 0x78 ∷ []) 9
    ∷ reading 39 8 24 (0xf9 ∷ 0x77 ∷ 0xff ∷ 0x3f ∷ 0xff ∷ []) 12
    ∷ [])
    ∷ []

-- ---- layers (T.800, A.6.1): 998, 999, 1000 and the last, 65534

-- a writer and a reader of the block that is not yet included, its inclusion node known up to this low, in the layer t
abbrev to_write : ℕ → ℕ → List ℕ
to_write t from = words 1 0 t (node 65535 from 0) (node 0 0 0) (block 0 0 0 0)

abbrev to_read : ℕ → ℕ → List ℕ
to_read t from = words 2 0 t (node 65535 from 0) (node 999 0 0) (block 0 0 0 0)

-- that block in one band, whose inclusion node this is, and in another a block with so many passes in earlier layers
abbrev with_another : ℕ → ℕ → List ℕ → List ℕ → List ℕ → List ℕ
with_another role t incl zero other =
    role ∷ 2 ∷ 0 ∷ t ∷ 1 ∷ 1 ∷ 5 ∷ 1 ∷ 1 ∷ 5 ∷ copies 3 0 ++ incl ++ zero ++ block 0 0 0 0 ++ node 0 0 1 ++ node 0 0 1 ++ other

-- the writer's, and the other block's next pass, of 5 bytes, behind what that node puts
abbrev writer-at : ℕ → List ℕ → ℕ → List ℕ
writer-at t incl passes = with_another 1 t incl (node 0 0 0) (block passes 3 0 0)

abbrev puts_other : List ℕ → Step
puts_other bytes = puts 33 (0 ∷ 1 ∷ []) (5 ∷ []) (0 ∷ []) bytes

-- a packet of the layer t in which the block is not included: one 0, or a single bit where nothing is
abbrev written_absent : ℕ → List Step
written_absent t =
    loads_writer (writer-at t (node 65535 t 0) 1) ∷ puts_other (0xa5 ∷ []) ∷ holds-writer (writer-at (t + 1) (node 65535 (t + 1) 0) 2)
    ∷ loads_writer (to_write t t) ∷ puts_none 23 1 ∷ holds-writer (to_write (t + 1) t)
    ∷ []

-- read, and where nothing is included that 0 behind a 1 too
abbrev read-absent : ℕ → List Step
read-absent t =
    loads-reader (with_another 2 t (node 65535 t 0) (node 999 0 0) (block 1 3 109 1))
    ∷ get 33 2 (0xa5 ∷ []) (told 1 1 1) (0 ∷ 0 ∷ 0 ∷ 0 ∷ 2 ∷ 0 ∷ 0 ∷ 1 ∷ []) (1 ∷ 0 ∷ 1 ∷ 5 ∷ [])
    ∷ holds-reader (with_another 2 (t + 1) (node 65535 (t + 1) 0) (node 999 0 0) (block 2 3 109 2))
    ∷ loads-reader (to_read t t) ∷ gets_none 23 1 ∷ holds-reader (to_read (t + 1) t)
    ∷ loads-reader (to_read t t) ∷ get 23 1 (0x80 ∷ []) (told 1 1 0) (copies 4 0) [] ∷ holds-reader (to_read (t + 1) (t + 1))
    ∷ []

-- and one in which it is for the first time, with three zeros before the 1
abbrev included_at : ℕ → List Step
included_at t =
    loads_writer (to_write t (t - 3)) ∷ puts 23 (1 ∷ []) (5 ∷ []) (0 ∷ []) (0x8c ∷ 0xa0 ∷ [])
    ∷ holds-writer (words 1 0 (t + 1) (node t t 1) (node 0 0 1) (block 1 3 0 0))
    ∷ loads-reader (to_read t (t - 3)) ∷ get 23 1 (0x8c ∷ 0xa0 ∷ []) (told 1 2 1) (1 ∷ 0 ∷ 5 ∷ 1 ∷ []) (0 ∷ 1 ∷ 1 ∷ 5 ∷ [])
    ∷ holds-reader (words 2 0 (t + 1) (node t t 0) (node 0 0 0) (block 1 3 109 1))
    ∷ []

-- a node's value is the layer v, in the layer t: written for a block without passes, and what holds then
abbrev value-at : ℕ → ℕ → ℕ → List ℕ → List ℕ → List Step
value-at v t from bytes after =
    loads_writer (writer-at t (node v from 0) 1) ∷ puts_other bytes ∷ holds-writer (writer-at (t + 1) after 2) ∷ []

-- a write and a read of the one block that have nothing else wrong
abbrev puts_no : ℕ → Step
puts_no why = writing 23 0 (0 ∷ []) [] [] 20 why []

abbrev gets_no : ℕ → Step
gets_no why = reading 23 4 0 (0x80 ∷ []) why

-- a 1, a thousand 0, and A's other bits
abbrev a_thousand : List ℕ
a_thousand = 0x80 ∷ copies 124 0 ++ 0x65 ∷ []

pub layer-rows : List Row
layer-rows =
    one (written_absent 998 ++ written_absent 999 ++ written_absent 1000 ++ written_absent 65533)
    ∷ one (read-absent 998 ++ read-absent 999 ++ read-absent 1000 ++ read-absent 65533)
    ∷ one (included_at 998)
    ∷ one (included_at 999)
    ∷ one (included_at 1000)
    ∷ one (included_at 65534)
    -- the last layer absent; after it 6, and one more is out of range
    ∷ one
    (read-absent 65534 ++ written_absent 65534
    ++ puts_no 6 ∷ gets_no 6 ∷ loads_writer (to_write 65536 65535) ∷ puts_no 5 ∷ loads-reader (to_read 65536 65535) ∷ gets_no 5 ∷ [])
    -- values between 998 and 65535 are layers: up to theirs a 0, and in theirs a 1
    ∷ one (value-at 998 998 998 (0xe5 ∷ []) (node 998 998 1) ++ value-at 999 998 998 (0xa5 ∷ []) (node 999 999 0))
    ∷ one (value-at 999 999 999 (0xe5 ∷ []) (node 999 999 1) ++ value-at 1000 999 999 (0xa5 ∷ []) (node 1000 1000 0))
    ∷ one (value-at 1000 1000 999 (0xb2 ∷ 0x80 ∷ []) (node 1000 1000 1) ++ value-at 65534 65533 65533 (0xa5 ∷ []) (node 65534 65534 0))
    ∷ one (value-at 65534 65534 65534 (0xe5 ∷ []) (node 65534 65534 1) ++ value-at 65535 65534 65535 (0xca ∷ []) (node 65535 65535 0))
    -- a reader's node of value 999 in that layer: the block is included and no bit of the inclusion tree is read
    ∷ one
    (loads-reader (words 2 0 999 (node 999 999 0) (node 0 0 0) (block 0 0 0 0))
    ∷ get 23 1 (0x94 ∷ []) (told 1 1 1) (1 ∷ 0 ∷ 5 ∷ 1 ∷ []) (0 ∷ 1 ∷ 1 ∷ 5 ∷ [])
    ∷ [])
    -- a low far below the layer: a thousand zeros
    ∷ one
    (loads_writer (to_write 65534 64534) ∷ puts 23 (1 ∷ []) (5 ∷ []) (0 ∷ []) a_thousand
    ∷ loads-reader (to_read 65534 64534) ∷ get 23 1 a_thousand (told 1 126 1) (1 ∷ 0 ∷ 5 ∷ 1 ∷ []) (0 ∷ 1 ∷ 1 ∷ 5 ∷ [])
    ∷ [])
    ∷ []

-- ---- trees of several levels: on each, the least zero planes of the blocks below a node

-- nodes of these values, nothing of them coded
abbrev uncoded : List ℕ → List ℕ
uncoded [] = []
uncoded (v ∷ vs) = node v 0 0 ++ uncoded vs

-- a writer that was just started, with one band and these values in its zero-plane tree
abbrev started : ℕ → ℕ → ℕ → List ℕ → List ℕ
started w h p values =
    1 ∷ 1 ∷ 0 ∷ 0 ∷ w ∷ h ∷ p ∷ copies 6 0
    ++ uncoded (copies (length values) not_yet_included) ++ uncoded values ++ copies (4 * (w * h)) 0

pub tree_rows : List Row
tree_rows =
    -- levels of 7 × 3, 4 × 2, 2 × 1 and 1 × 1 nodes
    record {
      given = band 7 3 20 ∷ [];
      planes = 8 ∷ 9 ∷ 10 ∷ 11 ∷ 7 ∷ 6 ∷ 12 ∷ 13 ∷ 5 ∷ 4 ∷ 14 ∷ 15 ∷ 3 ∷ 2 ∷ 16 ∷ 1 ∷ 17 ∷ 5 ∷ 18 ∷ 8 ∷ 19 ∷ [];
      style = 0;
      steps = holds-writer
          (started 7 3 20
          (12 ∷ 11 ∷ 10 ∷ 9 ∷ 13 ∷ 14 ∷ 8 ∷ 7 ∷ 15 ∷ 16 ∷ 6 ∷ 5 ∷ 17 ∷ 18 ∷ 4 ∷ 19 ∷ 3 ∷ 15 ∷ 2 ∷ 12 ∷ 1 ∷ 7 ∷ 6 ∷ 5 ∷ 8 ∷ 4 ∷ 3 ∷ 2 ∷ 1
          ∷ 3 ∷ 1 ∷ 1 ∷ []))
          ∷ [];
    }
    -- seven levels, the most; the last of the blocks has the fewest zero planes
    ∷ precinct 33 0 (copies 32 4 ++ 5 ∷ [])
    (holds-writer
    (started 33 1 5
    (copies 32 1 ++ 0 ∷ copies 16 1 ++ 0 ∷ copies 8 1 ++ 0 ∷ copies 4 1 ++ 0 ∷ copies 2 1 ++ 0 ∷ 1 ∷ 0 ∷ 0 ∷ []))
    ∷ [])
    ∷ []

-- ---- packets without passes: a single 0, and only the next layer moves

-- a packet of the one block with both markers
abbrev stamped : ℕ → List ℕ → List ℕ
stamped number header = 0xff ∷ 0x91 ∷ 0x00 ∷ 0x04 ∷ 0x00 ∷ number ∷ header ++ 0xff ∷ 0x92 ∷ []

abbrev puts_stamped : ℕ → List ℕ → List ℕ → List ℕ → Step
puts_stamped number cs ls header =
    writes
    (record {
      contribution = contribution cs ls (copies (sum cs) 0);
      markers = marked;
      number = number;
      scratch = 23;
      body = sum ls;
      output = 8 + length header + sum ls;
    }) 0
    (stamped number header)

abbrev gets_stamped : ℕ → List ℕ → ℕ → List ℕ → List ℕ → Step
gets_stamped number header present reports records =
    reads (record { markers = marked; input = stamped number header; scratch = 23; reports = 4; records = 4 })
    (told present (8 + length header) present) reports records

-- a writer of two blocks in a row with zero planes 0 and 1, of which nothing was coded
abbrev two_uncoded : ℕ → List ℕ
two_uncoded t =
    1 ∷ 1 ∷ 0 ∷ t ∷ 2 ∷ 1 ∷ 5 ∷ copies 6 0 ++ uncoded (copies 3 not_yet_included) ++ uncoded (0 ∷ 1 ∷ 0 ∷ []) ++ copies 8 0

pub empty_rows : List Row
empty_rows =
    -- J with both markers
    one
    (puts_stamped 0 (0 ∷ []) [] (0x00 ∷ [])
    ∷ puts_stamped 1 (1 ∷ []) (5 ∷ []) (0xb2 ∷ 0x80 ∷ [])
    ∷ puts_stamped 2 (1 ∷ []) (3 ∷ []) (0xc6 ∷ [])
    ∷ gets_stamped 0 (0x00 ∷ []) 0 (copies 4 0) []
    ∷ gets_stamped 1 (0xb2 ∷ 0x80 ∷ []) 1 (1 ∷ 0 ∷ 5 ∷ 1 ∷ []) (0 ∷ 1 ∷ 1 ∷ 5 ∷ [])
    ∷ gets_stamped 2 (0xc6 ∷ []) 1 (2 ∷ 0 ∷ 0 ∷ 1 ∷ []) (0 ∷ 0 ∷ 1 ∷ 3 ∷ [])
    ∷ [])
    -- 11 without a byte of output; behind passes, the block's words and nodes stay
    ∷ one
    (put 23 (0 ∷ []) [] [] 0 11 []
    ∷ loads_writer (wrote 1 4) ∷ puts_none 23 1 ∷ holds-writer (wrote 2 4)
    ∷ [])
    -- two of two blocks; then the first block comes, then the second
    ∷ precinct 2 0 (5 ∷ 4 ∷ [])
    (puts_none 39 2 ∷ holds-writer (two_uncoded 1) ∷ puts_none 39 2 ∷ holds-writer (two_uncoded 2)
    ∷ puts 39 (1 ∷ 0 ∷ []) (5 ∷ []) (0 ∷ []) (0x9e ∷ 0x50 ∷ [])
    ∷ puts 39 (0 ∷ 1 ∷ []) (5 ∷ []) (0 ∷ []) (0xa9 ∷ 0x40 ∷ [])
    ∷ gets_none 39 2 ∷ gets_none 39 2
    ∷ get 39 2 (0x9e ∷ 0x50 ∷ []) (told 1 2 1) (1 ∷ 0 ∷ 5 ∷ 1 ∷ copies 4 0) (0 ∷ 1 ∷ 1 ∷ 5 ∷ [])
    ∷ get 39 2 (0xa9 ∷ 0x40 ∷ []) (told 1 2 1) (copies 4 0 ++ 1 ∷ 1 ∷ 4 ∷ 1 ∷ []) (1 ∷ 1 ∷ 1 ∷ 5 ∷ [])
    ∷ [])
    -- coded block by block it is read too: a 1 and one 0
    ∷ one
    (get 23 1 (0x80 ∷ []) (told 1 1 0) (copies 4 0) [] ∷ holds-reader (words 2 0 1 (node not_yet_included 1 0) fresh_planes (block 0 0 0 0))
    ∷ [])
    ∷ []

-- ---- bits past the input's end

-- A's block as it comes first, and a block that had a pass: bits past the end; report; record
abbrev cut : List ℕ → ℕ → List ℕ → List ℕ → Step
cut src past report segment = get 23 1 src (told-past 1 (length src) 1 past) report segment

pub past_rows : List Row
past_rows =
    -- no bytes; SOP and no bytes, also where SOP ends in FF; an absent packet that is there
    one (get 23 1 [] (told-past 0 0 0 1) (copies 4 0) [] ∷ [])
    ∷ record {
      given = band 0 0 5 ∷ [];
      planes = [];
      style = 0;
      steps =
          scans_past sop_only (0xff ∷ 0x91 ∷ 0x00 ∷ 0x04 ∷ 0x00 ∷ 0xff ∷ []) 0 6 0 0 1
          ∷ scans_past eph_only [] 0 0 0 1 1
          ∷ scans eph_only (0x00 ∷ []) 0 1 0 1
          ∷ scans plain (0x00 ∷ []) 0 1 0 0
          ∷ [];
    }
    -- cut in inclusion: eleven zeros, of which seven are there
    ∷ one (loads-reader (to_read 10 0) ∷ get 23 1 (0x80 ∷ []) (told-past 1 1 0 4) (copies 4 0) [] ∷ holds-reader (to_read 11 11) ∷ [])
    -- in zero planes: two hundred zeros, of which six are there
    ∷ one
    (loads-reader (words 2 0 0 fresh_included (node 200 0 0) (block 0 0 0 0))
    ∷ cut (0xc0 ∷ []) 199 (1 ∷ 200 ∷ (2 ^ 32 - 195) ∷ 1 ∷ []) (0 ∷ 1 ∷ 1 ∷ 0 ∷ [])
    ∷ [])
    -- in the pass count: in its five bits, its two, its five again, its seven
    ∷ one (loads-reader (read_one 0 1 3) ∷ cut (0xfc ∷ []) 9 (2 ∷ 0 ∷ 0 ∷ 6 ∷ []) (0 ∷ 0 ∷ 6 ∷ 0 ∷ []) ∷ [])
    ∷ one (cut (0xcf ∷ []) 7 (1 ∷ 2 ∷ 3 ∷ 5 ∷ []) (0 ∷ 1 ∷ 5 ∷ 0 ∷ []) ∷ [])
    ∷ one (cut (0xfe ∷ []) 10 (1 ∷ 0 ∷ 5 ∷ 6 ∷ []) (0 ∷ 1 ∷ 6 ∷ 0 ∷ []) ∷ [])
    ∷ one (cut (0xff ∷ 0x78 ∷ []) 13 (1 ∷ 0 ∷ 5 ∷ 37 ∷ []) (0 ∷ 1 ∷ 37 ∷ 0 ∷ []) ∷ [])
    -- in the increment
    ∷ one (cut (0xef ∷ []) 8 (1 ∷ 0 ∷ 5 ∷ 1 ∷ []) (0 ∷ 1 ∷ 1 ∷ 0 ∷ []) ∷ [])
    -- in a length: B, D and E without their last bytes
    ∷ one (cut (0xea ∷ []) 2 (1 ∷ 0 ∷ 5 ∷ 1 ∷ []) (0 ∷ 1 ∷ 1 ∷ 8 ∷ []) ∷ [])
    ∷ one (cut (0xff ∷ 0x78 ∷ 0x06 ∷ []) 5 (1 ∷ 0 ∷ 5 ∷ 37 ∷ []) (0 ∷ 1 ∷ 37 ∷ 192 ∷ []) ∷ [])
    ∷ one (cut (0xfe ∷ 0xad ∷ []) 8 (1 ∷ 0 ∷ 5 ∷ 16 ∷ []) (0 ∷ 1 ∷ 16 ∷ 256 ∷ []) ∷ [])
    -- behind FF the first byte past the end has seven bits: of twelve bits five lie in the second
    ∷ one (cut (0xff ∷ []) 12 (1 ∷ 0 ∷ 5 ∷ 22 ∷ []) (0 ∷ 1 ∷ 22 ∷ 0 ∷ []) ∷ [])
    -- K without its last bytes: in the second block, and in the first block's length
    ∷ precinct 2 0 (5 ∷ 4 ∷ [])
    (get 39 2 (0xf9 ∷ 0x69 ∷ []) (told-past 1 2 2 2) (1 ∷ 0 ∷ 5 ∷ 1 ∷ 1 ∷ 1 ∷ 4 ∷ 1 ∷ []) (0 ∷ 1 ∷ 1 ∷ 5 ∷ 1 ∷ 1 ∷ 1 ∷ 4 ∷ []) ∷ [])
    ∷ precinct 2 0 (5 ∷ 4 ∷ [])
    (get 39 2 (0xf9 ∷ []) (told-past 1 1 1 3) (1 ∷ 0 ∷ 5 ∷ 1 ∷ copies 4 0) (0 ∷ 1 ∷ 1 ∷ 4 ∷ []) ∷ [])
    -- a refusal tells none: 9 behind four bits past the end, 13 behind one
    ∷ one (loads-reader (read_one 0 1 32) ∷ reading 23 4 20 (0xfc ∷ []) 9 ∷ [])
    ∷ one (reading 23 4 0 (0xef ∷ []) 13 ∷ [])
    ∷ []

-- ---- a layer of several precincts, all of it or none (SCOPE S21)

-- a precinct's part of the lists
record Part : Type 0 where
  state : List ℕ
  counts : List ℕ
  lengths : List ℕ
  marks : List ℕ
  body : List ℕ

-- a state with counts and lengths, no pass terminated, and a body of one byte repeated
abbrev part : List ℕ → List ℕ → List ℕ → ℕ → Part
part state cs ls byte = record { state = state; counts = cs; lengths = ls; marks = copies (length ls) 0; body = copies (sum ls) byte }

abbrev states_of : List Part → List ℕ
states_of ps = flat_map (λ p. p.state) ps

-- the parts behind one another, with so many words of scratch and bytes of output
abbrev gathered : Markers → List ℕ → List Part → ℕ → ℕ → LayerWriting
gathered m numbers ps scratch room = record {
  states = states_of ps;
  contribution = contribution (flat_map (λ p. p.counts) ps) (flat_map (λ p. p.lengths) ps) (flat_map (λ p. p.marks) ps);
  bodies = flat_map (λ p. p.body) ps;
  markers = m;
  numbers = numbers;
  scratch = scratch;
  output = room;
}

-- without markers, and with as much scratch as states: the packets, and the states after them
abbrev lays : List Part → ℕ → List ℕ → List ℕ → Step
lays ps room packets after =
    writes_layer (gathered plain (copies (length ps) 0) ps (length (states_of ps)) room) (0 ∷ 0 ∷ length packets ∷ []) packets after

-- refused with a number, at a place
abbrev lays_not : List Part → ℕ → ℕ → ℕ → Step
lays_not ps room why place =
    writes_layer (gathered plain (copies (length ps) 0) ps (length (states_of ps)) room) (why ∷ place ∷ 0 ∷ []) [] []

-- and with 5, at place 0, where the scratch has so many words
abbrev lays_not_with : ℕ → List Part → Step
lays_not_with scratch ps = writes_layer (gathered plain (copies (length ps) 0) ps scratch 20) (5 ∷ 0 ∷ 0 ∷ []) [] []

-- A's block, which comes first with a pass of 5 bytes, and its state then; a packet of 6 bytes
abbrev fresh : List ℕ
fresh = words 1 0 0 fresh_included (node 0 0 0) (block 0 0 0 0)

abbrev fresh_written : List ℕ
fresh_written = words 1 0 1 (node 0 0 1) (node 0 0 1) (block 1 3 0 0)

abbrev as_a : ℕ → Part
as_a byte = part fresh (1 ∷ []) (5 ∷ []) byte

-- the block in the last layer and after it
abbrev at_the_end : Part
at_the_end = part (wrote 65534 3) (1 ∷ []) (3 ∷ []) 0x11

abbrev ended : List ℕ
ended = words 1 0 65535 (node 0 1 1) (node 0 1 1) (block 2 3 0 0)

abbrev past_the_end : Part
past_the_end = part (wrote 65535 3) (1 ∷ []) (3 ∷ []) 0x11

-- K's two blocks, and their state then
abbrev as_k : Part
as_k = part (two_uncoded 0) (1 ∷ 1 ∷ []) (5 ∷ 5 ∷ []) 0x22

abbrev k_written : List ℕ
k_written =
    1 ∷ 1 ∷ 0 ∷ 1 ∷ 2 ∷ 1 ∷ 5 ∷ copies 6 0 ++ node 0 0 1 ++ node 0 0 1 ++ node 0 0 1 ++ node 0 0 1 ++ node 1 1 1 ++ node 0 0 1
    ++ block 1 3 0 0 ++ block 1 3 0 0

-- three bands without blocks, in the layer t
abbrev no_blocks : ℕ → List ℕ
no_blocks t = bare 1 3 63 t largest

-- the block with passes split by marks, with style 0x04 in layer 7: two passes, of 3 bytes and of 2
abbrev terminated : Part
terminated = record {
  state = words 1 4 7 (node 0 1 1) (node 0 1 1) (block 1 3 0 0);
  counts = 2 ∷ [];
  lengths = 3 ∷ 2 ∷ [];
  marks = 1 ∷ 1 ∷ [];
  body = copies 5 0x33;
}

-- a reader's state; two passes with 32 length bits; 165 passes; 2^31 bytes, and no body
abbrev gives_5 : Part
gives_5 = part (unread 0) (1 ∷ []) (5 ∷ []) 0x44

abbrev gives_7 : Part
gives_7 = part fresh (165 ∷ []) (copies 165 0) 0x44

abbrev gives_8 : Part
gives_8 = record { state = fresh; counts = 1 ∷ []; lengths = 2 ^ 31 ∷ []; marks = 0 ∷ []; body = [] }

abbrev gives_9 : Part
gives_9 = part (wrote 1 32) (2 ∷ []) (1 ∷ 1 ∷ []) 0x44

-- such a precinct in each place among three, the others A's
abbrev in_each_place : ℕ → Part → List Step
in_each_place why bad =
    lays_not (bad ∷ as_a 1 ∷ as_a 2 ∷ []) 20 why 0
    ∷ lays_not (as_a 1 ∷ bad ∷ as_a 2 ∷ []) 20 why 1
    ∷ lays_not (as_a 1 ∷ as_a 2 ∷ bad ∷ []) 20 why 2
    ∷ []

-- three precincts, with lists that need not fit them: states, counts, lengths, marks, body bytes; the refusal and its place
abbrev three_of : List ℕ → List ℕ → List ℕ → List ℕ → ℕ → ℕ → ℕ → Step
three_of states cs ls ms bytes why place =
    writes_layer
    (record {
      states = states;
      contribution = contribution cs ls ms;
      bodies = copies bytes 7;
      markers = plain;
      numbers = copies 3 0;
      scratch = length states;
      output = 20;
    })
    (why ∷ place ∷ 0 ∷ []) [] []

-- A's block three times, with other counts, lengths, marks or body bytes
abbrev three_with : List ℕ → List ℕ → List ℕ → ℕ → ℕ → ℕ → Step
three_with cs ls ms bytes why place = three_of (fresh ++ fresh ++ fresh) cs ls ms bytes why place

-- the same with other states
abbrev three_on : List ℕ → ℕ → ℕ → Step
three_on states why place = three_of states (copies 3 1) (copies 3 5) (copies 3 0) 15 why place

-- so many packet numbers, with lists that fit no precinct: refused or not, no list is changed
abbrev unlooked : ℕ → ℕ → List ℕ → ℕ → Step
unlooked precincts why states scratch =
    writes_layer
    (record {
      states = states;
      contribution = contribution (165 ∷ []) (2 ^ 31 ∷ []) (1 ∷ 1 ∷ []);
      bodies = copies 3 7;
      markers = marked;
      numbers = copies precincts 1;
      scratch = scratch;
      output = 4;
    })
    (why ∷ 0 ∷ 0 ∷ []) [] []

pub whole_layer_rows : List Row
whole_layer_rows =
    -- one precinct, as the single call writes it
    one
    (puts 23 (1 ∷ []) (5 ∷ []) (0 ∷ []) (0xe5 ∷ []) ∷ holds-writer fresh_written
    ∷ lays (as_a 7 ∷ []) 6 (0xe5 ∷ copies 5 7) fresh_written
    ∷ [])
    -- two and three of different shapes, styles and layers; output as long as the packets, and longer
    ∷ one
    (lays (as_k ∷ as_a 7 ∷ []) 19 (0xf9 ∷ 0x69 ∷ 0x40 ∷ copies 10 0x22 ++ 0xe5 ∷ copies 5 7) (k_written ++ fresh_written)
    ∷ lays (terminated ∷ part (no_blocks 0) [] [] 0 ∷ at_the_end ∷ []) 15
    (0xe3 ∷ 0x40 ∷ copies 5 0x33 ++ 0x00 ∷ 0xc6 ∷ copies 3 0x11)
    (words 1 4 8 (node 0 1 1) (node 0 1 1) (block 3 3 0 0) ++ no_blocks 1 ++ ended)
    ∷ lays (part (no_blocks 65534) [] [] 0 ∷ as_k ∷ part (no_blocks 3) [] [] 0 ∷ []) 40
    (0x00 ∷ 0xf9 ∷ 0x69 ∷ 0x40 ∷ copies 10 0x22 ++ 0x00 ∷ [])
    (no_blocks 65535 ++ k_written ++ no_blocks 4)
    ∷ [])
    -- two layers, in the first of which the first precinct has no passes
    ∷ one
    (lays (part fresh (0 ∷ []) [] 0 ∷ as_a 7 ∷ []) 7 (0x00 ∷ 0xe5 ∷ copies 5 7)
    (words 1 0 1 fresh_included (node 0 0 0) (block 0 0 0 0) ++ fresh_written)
    ∷ lays
    (part (words 1 0 1 fresh_included (node 0 0 0) (block 0 0 0 0)) (1 ∷ []) (5 ∷ []) 8 ∷ part fresh_written (1 ∷ []) (3 ∷ []) 9 ∷ []) 12
    (0xb2 ∷ 0x80 ∷ copies 5 8 ++ 0xc6 ∷ copies 3 9)
    (words 1 0 2 (node 1 1 1) (node 0 0 1) (block 1 3 0 0) ++ words 1 0 2 (node 0 0 1) (node 0 0 1) (block 2 3 0 0))
    ∷ [])
    -- both markers, with a number for each; they count in 11
    ∷ one
    (writes_layer (gathered marked (513 ∷ 65538 ∷ []) (part fresh (0 ∷ []) [] 0 ∷ as_a 7 ∷ []) 46 25) (0 ∷ 0 ∷ 23 ∷ [])
    (0xff ∷ 0x91 ∷ 0x00 ∷ 0x04 ∷ 0x02 ∷ 0x01 ∷ 0x00 ∷ 0xff ∷ 0x92 ∷ stamped 2 (0xe5 ∷ []) ++ copies 5 7)
    (words 1 0 1 fresh_included (node 0 0 0) (block 0 0 0 0) ++ fresh_written)
    ∷ writes_layer (gathered marked (1 ∷ 2 ∷ []) (as_a 7 ∷ as_a 8 ∷ []) 46 27) (11 ∷ 1 ∷ 0 ∷ []) [] []
    ∷ [])
    -- sixteen; seventeen give 14 before all else, and an empty list none
    ∷ one
    (lays (replicate 16 (part (no_blocks 1) [] [] 0)) 17 (copies 16 0) (flat_map (λ t. no_blocks t) (copies 16 2))
    ∷ unlooked 17 14 [] 3 ∷ unlooked 17 14 fresh 23 ∷ unlooked 17 14 (unread 0) 22
    ∷ unlooked 0 0 [] 3 ∷ unlooked 0 0 fresh 0 ∷ unlooked 0 0 fresh 23 ∷ unlooked 0 0 (unread 0) 22
    ∷ [])
    -- 5 for the scratch, before each precinct's own number
    ∷ one
    (lays_not_with 45 (as_a 1 ∷ as_a 2 ∷ []) ∷ lays_not_with 47 (as_a 1 ∷ as_a 2 ∷ []) ∷ lays_not_with 0 (as_a 1 ∷ [])
    ∷ lays_not_with 45 (past_the_end ∷ as_a 2 ∷ []) ∷ lays_not_with 47 (as_a 1 ∷ past_the_end ∷ [])
    ∷ lays_not_with 47 (as_a 1 ∷ gives_5 ∷ [])
    ∷ [])
    -- each number in each place
    ∷ one
    (in_each_place 5 gives_5 ++ in_each_place 6 past_the_end ++ in_each_place 7 gives_7 ++ in_each_place 8 gives_8
    ++ in_each_place 9 gives_9)
    -- and a state that asks more words than there are
    ∷ one
    (lays_not (part (set (set fresh 4 (2 ^ 32 - 1)) 5 (2 ^ 32 - 1)) (1 ∷ []) (5 ∷ []) 7 ∷ as_a 1 ∷ []) 20 5 0
    ∷ lays_not (as_a 1 ∷ part (set (set fresh 4 (2 ^ 32 - 1)) 5 (2 ^ 32 - 1)) (1 ∷ []) (5 ∷ []) 7 ∷ as_a 1 ∷ []) 20 5 1
    ∷ [])
    -- 3 and 10: a part cut short where the list ends in it, or more than the last one needs
    ∷ one
    (three_with [] (copies 3 5) (copies 3 0) 15 3 0 ∷ three_with (1 ∷ []) (copies 3 5) (copies 3 0) 15 3 1
    ∷ three_with (copies 2 1) (copies 3 5) (copies 3 0) 15 3 2 ∷ three_with (copies 3 1 ++ 0 ∷ []) (copies 3 5) (copies 3 0) 15 3 2
    ∷ three_with (copies 3 1) [] (copies 3 0) 15 3 0 ∷ three_with (copies 3 1) (5 ∷ []) (copies 3 0) 15 3 1
    ∷ three_with (copies 3 1) (copies 2 5) (copies 3 0) 15 3 2 ∷ three_with (copies 3 1) (copies 3 5 ++ 0 ∷ []) (copies 3 0) 15 3 2
    ∷ three_with (copies 3 1) (copies 3 5) [] 15 3 0 ∷ three_with (copies 3 1) (copies 3 5) (0 ∷ []) 15 3 1
    ∷ three_with (copies 3 1) (copies 3 5) (copies 2 0) 15 3 2 ∷ three_with (copies 3 1) (copies 3 5) (copies 4 0) 15 3 2
    ∷ three_with (copies 3 1) (copies 3 5) (copies 3 0) 4 10 0 ∷ three_with (copies 3 1) (copies 3 5) (copies 3 0) 9 10 1
    ∷ three_with (copies 3 1) (copies 3 5) (copies 3 0) 14 10 2 ∷ three_with (copies 3 1) (copies 3 5) (copies 3 0) 16 10 2
    ∷ [])
    -- 5: states cut short in the last one's words, before them, in the middle one's, in the first one's first words; left-over words
    ∷ one
    (three_on (take 68 (fresh ++ fresh ++ fresh)) 5 2 ∷ three_on (fresh ++ fresh) 5 2 ∷ three_on (take 45 (fresh ++ fresh)) 5 1
    ∷ three_on (take 26 (fresh ++ fresh)) 5 1 ∷ three_on fresh 5 1 ∷ three_on (take 22 fresh) 5 0 ∷ three_on (take 1 fresh) 5 0
    ∷ three_on [] 5 0 ∷ three_on (fresh ++ fresh ++ fresh ++ 0 ∷ []) 5 2
    ∷ three_on (fresh ++ fresh ++ fresh ++ fresh) 5 2
    -- before 6 of the last
    ∷ three_on (fresh ++ fresh ++ wrote 65535 3 ++ 0 ∷ []) 5 2 ∷ three_on (fresh ++ fresh ++ wrote 65535 3) 6 2
    ∷ [])
    -- 11: behind packets of 6 bytes each
    ∷ one
    (lays_not (as_a 1 ∷ as_a 2 ∷ as_a 3 ∷ []) 5 11 0 ∷ lays_not (as_a 1 ∷ as_a 2 ∷ as_a 3 ∷ []) 11 11 1
    ∷ lays_not (as_a 1 ∷ as_a 2 ∷ as_a 3 ∷ []) 17 11 2 ∷ lays_not (as_a 1 ∷ part (no_blocks 0) [] [] 0 ∷ []) 6 11 1
    ∷ lays_not (as_a 1 ∷ []) 0 11 0
    ∷ [])
    -- the first precinct decides, whatever the others' numbers are
    ∷ one
    (lays_not (as_a 1 ∷ gives_5 ∷ []) 5 11 0 ∷ lays_not (as_a 1 ∷ gives_9 ∷ gives_5 ∷ []) 20 9 1
    ∷ lays_not (past_the_end ∷ gives_5 ∷ gives_8 ∷ []) 20 6 0 ∷ lays_not (gives_8 ∷ past_the_end ∷ []) 0 8 0
    ∷ three_of (fresh ++ wrote 65535 3 ++ unread 0) (1 ∷ []) (5 ∷ []) (0 ∷ []) 5 6 1
    ∷ three_of (fresh ++ fresh ++ unread 0) (1 ∷ []) (5 ∷ []) (0 ∷ []) 5 3 1
    ∷ three_of (fresh ++ fresh ++ unread 0) (copies 3 1) (copies 3 5) (copies 3 0) 5 10 1
    ∷ [])
    -- sums above 2^32, of counts and of lengths
    ∷ one
    (three_of (two_uncoded 0 ++ fresh ++ fresh) ((2 ^ 32 - 1) ∷ (2 ^ 32 - 1) ∷ 1 ∷ 1 ∷ []) (copies 4 5) (copies 4 0) 20 3 0
    ∷ three_of (two_uncoded 0 ++ fresh ++ fresh) ((2 ^ 32 - 1) ∷ 3 ∷ 1 ∷ 1 ∷ []) (copies 4 5) (copies 4 0) 20 3 0
    ∷ three_of (two_uncoded 0 ++ fresh ++ fresh) (1 ∷ 2 ∷ 1 ∷ 1 ∷ []) ((2 ^ 31 - 1) ∷ (2 ^ 31 - 1) ∷ 2 ∷ 0 ∷ 0 ∷ []) (copies 5 1) 0 10 0
    ∷ [])
    ∷ []

-- ---- headers gathered in front

-- a reader of a precinct without blocks
abbrev none_in : ℕ → List ℕ
none_in t = bare 2 3 63 t largest

-- one segment with this index
abbrev ppt : ℕ → List ℕ → List ℕ
ppt index bytes = 0xff ∷ 0x61 ∷ 0 ∷ (3 + length bytes) ∷ index ∷ bytes

abbrev moving : Markers → List ℕ → List ℕ → Moving
moving m states places = record { states = states; scratch = length states; places = places; markers = m }

-- the row moved and moved back, with just the output that each needs: segments, bodies, states after
abbrev there_and_back : Markers → List ℕ → List ℕ → List ℕ → List ℕ → List ℕ → List ℕ → List Step
there_and_back m states places row segments bodies after =
    gathers (record { row = row; with = moving m states places; headers = length segments; bodies = length bodies }) 0 segments bodies after
    ∷ spreads (record { headers = segments; bodies = bodies; with = moving m states places; row = length row }) 0 row after
    -- and with more of it
    ∷ gathers (record { row = row; with = moving m states places; headers = length segments + 3; bodies = length bodies + 2 }) 0 segments
    bodies after
    ∷ spreads (record { headers = segments; bodies = bodies; with = moving m states places; row = length row + 4 }) 0 row after
    ∷ []

-- refused, with so many bytes of output
abbrev not_gathered : Markers → List ℕ → List ℕ → List ℕ → ℕ → ℕ → ℕ → Step
not_gathered m states places row headers bodies why =
    gathers (record { row = row; with = moving m states places; headers = headers; bodies = bodies }) why [] [] []

abbrev not_spread : Markers → List ℕ → List ℕ → List ℕ → List ℕ → ℕ → ℕ → Step
not_spread m states places segments bodies row why =
    spreads (record { headers = segments; bodies = bodies; with = moving m states places; row = row }) why [] []

-- with a scratch of another length
abbrev not_moved_with : ℕ → Step
not_moved_with n =
    gathers (record {
      row = 0xe5 ∷ copies 5 7;
      with = record { states = unread 0; scratch = n; places = 0 ∷ []; markers = plain };
      headers = 9;
      bodies = 9;
    }) 5 [] [] []

abbrev not_back_with : ℕ → Step
not_back_with n =
    spreads (record {
      headers = ppt 0 (0xe5 ∷ []);
      bodies = copies 5 7;
      with = record { states = unread 0; scratch = n; places = 0 ∷ []; markers = plain };
      row = 9;
    }) 5 [] []

abbrev sop : ℕ → List ℕ
sop number = 0xff ∷ 0x91 ∷ 0x00 ∷ 0x04 ∷ 0x00 ∷ number ∷ []

-- A's packet; then one with three bytes more of the same block
abbrev a_packet : ℕ → List ℕ
a_packet x = 0xe5 ∷ copies 5 x

abbrev next_packet : ℕ → List ℕ
next_packet x = 0xc6 ∷ copies 3 x

abbrev a_read : List ℕ
a_read = words 2 0 1 (node 0 0 0) (node 0 0 0) (block 1 3 109 1)

abbrev next_read : List ℕ
next_read = words 2 0 2 (node 0 0 0) (node 0 0 0) (block 2 3 109 2)

-- E's header, at the end of its state
abbrev e_header : List ℕ
e_header = 0xfe ∷ 0xad ∷ 0xff ∷ 0x00 ∷ []

abbrev e_read : List ℕ
e_read = words 2 0 1 (node 0 0 0) (node 0 0 0) (block 16 5 109 16)

-- a move back of E's packet whose header is cut so
abbrev e_cut : List ℕ → Step
e_cut segments =
    spreads (record { headers = segments; bodies = copies 511 7; with = moving plain (unread 0) (0 ∷ []); row = 515 }) 0
    (e_header ++ copies 511 7) e_read

-- A's header in segments that give 16, before all else
abbrev gives_16 : List ℕ → Step
gives_16 segments = not_spread plain [] (3 ∷ []) segments (copies 5 7) 0 16

-- a read of A from gathered headers, with so many bytes behind SOP
abbrev from_gathered : Markers → List ℕ → List ℕ → List ℕ → List ℕ → List ℕ → Step
from_gathered m headers src answer reports records =
    reads_gathered
    (record { headers = headers; beside = record { markers = m; input = src; scratch = 23; reports = 4; records = 8 } })
    answer reports records

pub gathered_rows : List Row
gathered_rows =
    -- one packet, and two of one precinct
    one
    (there_and_back plain (unread 0) (0 ∷ []) (a_packet 7) (ppt 0 (0xe5 ∷ [])) (copies 5 7) a_read
    ++ there_and_back plain (unread 0) (0 ∷ 0 ∷ []) (a_packet 7 ++ next_packet 8) (ppt 0 (0xe5 ∷ 0xc6 ∷ []))
    (copies 5 7 ++ copies 3 8) next_read)
    -- several precincts in mixed order, one of them without packets
    ∷ one
    (there_and_back plain (unread 0 ++ none_in 4 ++ unread 0 ++ unread 9) (2 ∷ 1 ∷ 0 ∷ 2 ∷ 1 ∷ [])
    (a_packet 1 ++ 0x00 ∷ a_packet 2 ++ next_packet 3 ++ 0x80 ∷ []) (ppt 0 (0xe5 ∷ 0x00 ∷ 0xe5 ∷ 0xc6 ∷ 0x80 ∷ []))
    (copies 5 1 ++ copies 5 2 ++ copies 3 3) (a_read ++ none_in 6 ++ next_read ++ unread 9))
    -- SOP remains with the body, EPH travels with the header
    ∷ one
    (there_and_back marked (unread 0) (0 ∷ 0 ∷ []) (stamped 4 (0xe5 ∷ []) ++ copies 5 7 ++ stamped 9 (0xc6 ∷ []) ++ copies 3 8)
    (ppt 0 (0xe5 ∷ 0xff ∷ 0x92 ∷ 0xc6 ∷ 0xff ∷ 0x92 ∷ [])) (sop 4 ++ copies 5 7 ++ sop 9 ++ copies 3 8) next_read
    ++ there_and_back sop_only (unread 0) (0 ∷ []) (sop 4 ++ 0xe5 ∷ copies 5 7) (ppt 0 (0xe5 ∷ [])) (sop 4 ++ copies 5 7) a_read
    ++ there_and_back eph_only (unread 0) (0 ∷ []) (0xe5 ∷ 0xff ∷ 0x92 ∷ copies 5 7) (ppt 0 (0xe5 ∷ 0xff ∷ 0x92 ∷ [])) (copies 5 7) a_read)
    -- a missing marker is not refused, and then the row need not come back
    ∷ one
    (gathers (record { row = 0x00 ∷ sop 0; with = moving sop_only (unread 0) (0 ∷ 0 ∷ []); headers = 6; bodies = 6 }) 0 (ppt 0 (0x00 ∷ []))
    (sop 0) (unread 2)
    ∷ spreads (record { headers = ppt 0 (0x00 ∷ []); bodies = sop 0; with = moving sop_only (unread 0) (0 ∷ 0 ∷ []); row = 7 }) 0
    (sop 0 ++ 0x00 ∷ []) (unread 2)
    ∷ gathers (record { row = a_packet 7; with = moving marked (unread 0) (0 ∷ []); headers = 6; bodies = 5 }) 0 (ppt 0 (0xe5 ∷ []))
    (copies 5 7) a_read
    ∷ [])
    -- bits past the row's end: G, and then nothing for the packets behind it
    ∷ one
    (there_and_back plain (unread 0) (0 ∷ 0 ∷ 0 ∷ []) [] [] [] (unread 3)
    ++ there_and_back plain (unread 0) (0 ∷ 0 ∷ []) (0xe0 ∷ []) (ppt 0 (0xe0 ∷ [])) []
    (words 2 0 2 (node 0 0 0) (node 0 0 0) (block 1 3 109 1)))
    -- no packets: the states are looked at, and the row must be empty
    ∷ one
    (there_and_back plain (unread 0 ++ none_in 65535) [] [] [] [] (unread 0 ++ none_in 65535) ++ there_and_back marked [] [] [] [] [] []
    ++ not_gathered plain (unread 0) [] (0x00 ∷ []) 9 9 10 ∷ not_gathered plain [] [] (0x00 ∷ []) 9 9 10
    ∷ not_gathered plain (take 22 (unread 0)) [] [] 9 9 5 ∷ not_spread plain [] [] (ppt 0 (0x00 ∷ [])) [] 9 10
    ∷ not_spread plain [] [] [] (7 ∷ []) 9 10 ∷ not_spread plain fresh [] [] [] 9 5
    ∷ [])
    -- 5, before any packet: a place without a state; a state out of range, a writer's, cut short; words left over; a scratch of another
    -- length
    ∷ one
    (not_gathered plain (unread 0) (1 ∷ []) (a_packet 7) 9 9 5 ∷ not_gathered plain [] (0 ∷ []) (a_packet 7) 9 9 5
    ∷ not_gathered plain (unread 0 ++ unread 0) (0 ∷ 2 ∷ []) (0xfe ∷ 0xad ∷ 0xff ∷ []) 9 9 5
    ∷ not_gathered plain (unread 0 ++ set (unread 0) 2 64) (0 ∷ []) (a_packet 7) 9 9 5
    ∷ not_gathered plain fresh (0 ∷ []) (a_packet 7) 9 9 5
    ∷ not_gathered plain (unread 0 ++ take 22 (unread 0)) (0 ∷ []) (a_packet 7) 9 9 5
    ∷ not_gathered plain (unread 0 ++ take 12 (unread 0)) (0 ∷ []) (a_packet 7) 9 9 5
    ∷ not_gathered plain (unread 0 ++ 0 ∷ []) (0 ∷ []) (a_packet 7) 9 9 5
    ∷ not_moved_with 22 ∷ not_moved_with 24 ∷ not_moved_with 0 ∷ not_back_with 22 ∷ not_back_with 24
    ∷ not_spread plain (unread 0) (1 ∷ []) (ppt 0 (0xe5 ∷ [])) (copies 5 7) 9 5
    ∷ not_spread plain (unread 0 ++ 0 ∷ []) (0 ∷ []) (ppt 0 (0xe5 ∷ [])) (copies 5 7) 9 5
    ∷ [])
    -- 6, only where that packet is read
    ∷ one
    (not_gathered plain (unread 65534) (0 ∷ 0 ∷ []) (0x00 ∷ 0x00 ∷ []) 9 9 6
    ∷ not_gathered plain (unread 65535 ++ unread 0) (1 ∷ 0 ∷ []) (0xfe ∷ 0xad ∷ 0xff ∷ []) 9 9 12
    ∷ not_gathered plain (unread 65535 ++ unread 0) (1 ∷ 0 ∷ []) (0x00 ∷ []) 0 0 11
    ∷ not_gathered plain (unread 65535 ++ unread 0) (1 ∷ 0 ∷ []) (0x00 ∷ []) 6 0 6
    ∷ not_spread plain (unread 65534) (0 ∷ 0 ∷ []) (ppt 0 (0x00 ∷ 0x00 ∷ [])) [] 9 6
    ∷ [])
    -- 9 and 12 before 10, and that before 11; 10 for what is left
    ∷ one
    (not_gathered plain (read_one 0 1 32) (0 ∷ []) (0xe0 ∷ []) 0 0 9
    ∷ not_gathered plain (unread 0) (0 ∷ []) (0xfe ∷ 0xad ∷ 0xff ∷ []) 0 0 12
    ∷ not_gathered plain (unread 0) (0 ∷ []) (0xe5 ∷ copies 4 7) 0 0 10 ∷ not_gathered plain (unread 0) (0 ∷ []) (0xe5 ∷ copies 6 7) 9 9 10
    ∷ not_gathered plain (unread 0) (0 ∷ []) (0xe5 ∷ copies 6 7) 5 5 11 ∷ not_gathered plain (unread 0) (0 ∷ []) (a_packet 7) 5 5 11
    ∷ not_gathered plain (unread 0) (0 ∷ []) (a_packet 7) 6 4 11 ∷ not_gathered plain (unread 0) (0 ∷ []) (a_packet 7) 0 0 11
    ∷ not_gathered plain (unread 0) (0 ∷ 0 ∷ []) (a_packet 7 ++ next_packet 8) 6 8 11
    ∷ not_gathered plain (unread 0) (0 ∷ 0 ∷ []) (a_packet 7 ++ next_packet 8) 7 7 11
    ∷ not_gathered plain (unread 0) (0 ∷ 0 ∷ []) (a_packet 7 ++ 0xfe ∷ 0xad ∷ 0xff ∷ []) 5 8 11
    ∷ not_spread plain (read_one 0 1 32) (0 ∷ []) (ppt 0 (0xe0 ∷ [])) [] 0 9
    ∷ not_spread plain (unread 0) (0 ∷ []) (ppt 0 (0xfe ∷ 0xad ∷ 0xff ∷ [])) (copies 5 7) 0 12
    ∷ not_spread plain (unread 0) (0 ∷ []) (ppt 0 (0xe5 ∷ [])) (copies 4 7) 0 10
    ∷ not_spread plain (unread 0) (0 ∷ []) (ppt 0 (0xe5 ∷ [])) (copies 5 7) 5 11
    ∷ not_spread plain (unread 0) (0 ∷ []) (ppt 0 (0xe5 ∷ [])) (copies 6 7) 6 10
    ∷ not_spread plain (unread 0) (0 ∷ []) (ppt 0 (0xe5 ∷ [])) (copies 6 7) 5 11
    ∷ not_spread plain (unread 0) (0 ∷ []) (ppt 0 (0xe5 ∷ 0x00 ∷ [])) (copies 5 7) 9 10
    ∷ [])
    -- 16: cut short, a length field below 4, another marker, indexes that don't run 0, 1, 2; before 5
    ∷ one
    (gives_16 (0xff ∷ []) ∷ gives_16 (0xff ∷ 0x61 ∷ 0 ∷ 4 ∷ 0 ∷ []) ∷ gives_16 (0xff ∷ 0x61 ∷ 0 ∷ 5 ∷ 0 ∷ 0xe5 ∷ [])
    ∷ gives_16 (0xff ∷ 0x61 ∷ 0 ∷ 3 ∷ 0 ∷ []) ∷ gives_16 (0xff ∷ 0x61 ∷ 0 ∷ 0 ∷ []) ∷ gives_16 (0xff ∷ 0x60 ∷ 0 ∷ 4 ∷ 0 ∷ 0xe5 ∷ [])
    ∷ gives_16 (0xfe ∷ 0x61 ∷ 0 ∷ 4 ∷ 0 ∷ 0xe5 ∷ []) ∷ gives_16 (ppt 1 (0xe5 ∷ [])) ∷ gives_16 (ppt 0 (0xe5 ∷ []) ++ ppt 0 (0xc6 ∷ []))
    ∷ gives_16 (ppt 0 (0xe5 ∷ []) ++ ppt 2 (0xc6 ∷ [])) ∷ gives_16 (ppt 0 (0xe5 ∷ []) ++ 0xff ∷ []) ∷ gives_16 (ppt 0 (0xe5 ∷ []) ++ 0 ∷ [])
    ∷ not_spread plain [] (3 ∷ []) (ppt 0 (0xe5 ∷ [])) (copies 5 7) 0 5
    ∷ [])
    -- any cut into segments of at least one byte is taken
    ∷ one
    (e_cut (ppt 0 e_header) ∷ e_cut (ppt 0 (0xfe ∷ []) ++ ppt 1 (0xad ∷ 0xff ∷ 0x00 ∷ []))
    ∷ e_cut (ppt 0 (0xfe ∷ 0xad ∷ []) ++ ppt 1 (0xff ∷ 0x00 ∷ [])) ∷ e_cut (ppt 0 (0xfe ∷ 0xad ∷ 0xff ∷ []) ++ ppt 1 (0x00 ∷ []))
    ∷ e_cut (ppt 0 (0xfe ∷ []) ++ ppt 1 (0xad ∷ []) ++ ppt 2 (0xff ∷ []) ++ ppt 3 (0x00 ∷ []))
    ∷ [])
    -- read from gathered headers: SOP beside the body, EPH behind the header, bits past the headers' end
    ∷ one
    (from_gathered plain (0xe5 ∷ []) [] (0 ∷ 1 ∷ 1 ∷ 0 ∷ 1 ∷ 0 ∷ 0 ∷ 0 ∷ []) (1 ∷ 0 ∷ 5 ∷ 1 ∷ []) (0 ∷ 1 ∷ 1 ∷ 5 ∷ []) ∷ holds-reader a_read
    ∷ from_gathered marked (0xc6 ∷ 0xff ∷ 0x92 ∷ 0x00 ∷ []) (sop 3 ++ copies 5 7) (0 ∷ 1 ∷ 3 ∷ 6 ∷ 1 ∷ 0 ∷ 0 ∷ 0 ∷ []) (2 ∷ 0 ∷ 0 ∷ 1 ∷ [])
    (0 ∷ 0 ∷ 1 ∷ 3 ∷ []) ∷ holds-reader next_read
    ∷ [])
    ∷ one
    (from_gathered marked (0x00 ∷ []) (0xff ∷ []) (0 ∷ 0 ∷ 1 ∷ 0 ∷ 0 ∷ 1 ∷ 1 ∷ 0 ∷ []) (copies 4 0) [] ∷ holds-reader (unread 1)
    ∷ from_gathered marked (0x00 ∷ sop 3) (copies 6 0) (0 ∷ 0 ∷ 1 ∷ 0 ∷ 0 ∷ 2 ∷ 2 ∷ 0 ∷ []) (copies 4 0) [] ∷ holds-reader (unread 2)
    ∷ from_gathered plain [] (0xe5 ∷ []) (0 ∷ 0 ∷ 0 ∷ 0 ∷ 0 ∷ 0 ∷ 0 ∷ 1 ∷ []) (copies 4 0) [] ∷ holds-reader (unread 3)
    ∷ from_gathered marked (0xfe ∷ 0xad ∷ 0xff ∷ []) (sop 3) (12 ∷ copies 7 0) [] [] ∷ holds-reader (unread 3)
    ∷ [])
    ∷ []

pub rows : List Row
rows =
    a_to_l ++ start-rows ++ write-rows ++ read-rows ++ range_rows ++ marker_rows ++ slip_rows ++ segment-rows ++ layer-rows ++ tree_rows
    ++ empty_rows ++ past_rows ++ whole_layer_rows ++ gathered_rows

-- ---- the statement: no row fails

pub all_rows_hold : failing 0 rows ≡ []
unfolding rows a_to_l start-rows write-rows read-rows range_rows marker_rows slip_rows segment-rows layer-rows tree_rows
    empty_rows past_rows whole_layer_rows gathered_rows failing row_holds
all_rows_hold = refl
