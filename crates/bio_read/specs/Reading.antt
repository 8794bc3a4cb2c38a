-- Bits of a packet header as they are read: t800's own steps, in the code's structs.
use Rattle.t800.specs.Bits as t800
use Rattle.bio_read.specs.declared.Decoded.{Decoded}
use Rattle.bio_read.specs.declared.BitRead.{BitRead}

abbrev pub decoded : Decoded → t800.Decoded
decoded r = record { value = r.value; bio = r.bio }

abbrev pub bit_read : BitRead → t800.BitRead
bit_read r = record { value = r.bit.value; past = r.bit.past; bio = r.bio }
