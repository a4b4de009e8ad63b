-- The tables of headers, and which of their entries can be read (System V gABI, "ELF Header": e_shoff to e_shnum, e_phoff to e_phnum).
use Rattle.std.specs.Prelude.{ℕ, ◌+◌, ◌*◌, ◌==◌, ◌&&◌, ℤ, pos, negsuc, nat_lt, nat_le, if◌then◌else◌, Bool, List, length, Option, None, Some}
use Rattle.yr_modules.specs.declared.elf.layout.Layout.{Layout}
use Rattle.yr_modules.specs.declared.elf.table.Table.{Table}
use Rattle.yr_modules.specs.Elf.Rows.{number_in, section_size, segment_size, e_phoff, e_phentsize, e_phnum, e_shoff, e_shentsize, e_shnum}

-- the section headers and the program headers, as the ELF header states them
abbrev pub sections_of : Layout → List ℕ → Table
sections_of l file = record {
  from = number_in l file 0 e_shoff;
  stated_size = number_in l file 0 e_shentsize;
  count = number_in l file 0 e_shnum;
  size = section_size l.class;
}

abbrev pub segments_of : Layout → List ℕ → Table
segments_of l file = record {
  from = number_in l file 0 e_phoff;
  stated_size = number_in l file 0 e_phentsize;
  count = number_in l file 0 e_phnum;
  size = segment_size l.class;
}

-- an entry can be read: it is one of the table, its stated size is that of its header, and it lies in a file of `end` bytes; places are exact
abbrev pub is_readable : Table → ℕ → ℕ → Bool
is_readable t end k = nat_lt k t.count && t.stated_size == t.size && nat_le (t.from + k * t.size + t.size) end

-- the place of an entry that can be read
abbrev pub entry_place : Table → ℕ → ℕ → Option ℕ
entry_place t end k = if is_readable t end k then Some (t.from + k * t.size) else None

-- the same by an index, which may be negative
abbrev pub indexed_place : Table → ℕ → ℤ → Option ℕ
indexed_place t end (pos k) = entry_place t end k
indexed_place t end (negsuc k) = None

-- where the header of a section stands, and of a segment
abbrev pub section_place : Layout → List ℕ → ℤ → Option ℕ
section_place l file index = indexed_place (sections_of l file) (length file) index

abbrev pub segment_place : Layout → List ℕ → ℤ → Option ℕ
segment_place l file index = indexed_place (segments_of l file) (length file) index
