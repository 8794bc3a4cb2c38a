-- Bytes put into a lent output where it has room for them, and the packet less its body so put.
use Rattle.std.specs.Prelude.{ℕ, ◌+◌, List, length}
use Rattle.std.proofs.lemmas.List.Edits.{sets}
use Rattle.t800.specs.declared.Markers.{Markers}
use Rattle.t800.specs.WriteHeader.{Contribution, code_header}
use Rattle.t800.specs.Packet.{front}
use Rattle.t2_write_header.specs.Header.{HeaderCoded, header_coded}

-- the output, and the place after what was put
pub record BytesPut : Type 0 where
  pub bytes : List ℕ
  pub end : ℕ

abbrev pub bytes_put : List ℕ → ℕ → BytesPut
bytes_put bytes end = record { bytes = bytes; end = end }

abbrev pub put_bytes : BytesPut → List ℕ → BytesPut
put_bytes o xs = bytes_put (sets o.bytes o.end xs) (o.end + length xs)

-- from the first byte on
unfoldable pub put_front : Contribution → List ℕ → Markers → ℕ → List ℕ → HeaderCoded
put_front p ws m number bytes = header_coded (code_header p ws).words (sets bytes 0 (front ws p m number)) (length (front ws p m number))
