-- Believed: the numbers of refusal: when each is given and at which place, in the words and order of documents 01 and 02.
use Rattle.std.specs.Prelude.{ℕ}
use Rattle.refusal.specs.declared.Refusal.{Refusal}
use Rattle.refusal.specs.declared.Reason.{Reason}
use Rattle.refusal.specs.declared.Reason.TheVariants.{TooManyAtoms, TableTooLong, ValueRoomTooSmall, CutShort, NotALiteral, OutOfRange, SecondRule, SheetTooLong, BufferTooSmall, WrongByte, NameTooLong, TooManyNames, TooManyInBody, TooManyWords, TextRoomTooSmall, NoSuchAtom, BrokenRecord, NotSettled, NotATruthCode, TextBroken, LineNotJustified, NotAModel}

abbrev pub refusal : ℕ → ℕ → Refusal
refusal n p = record { number = n; place = p }

-- the number of each reason
abbrev pub number_of : Reason → ℕ
number_of TooManyAtoms = 1
number_of TableTooLong = 2
number_of ValueRoomTooSmall = 3
number_of CutShort = 4
number_of NotALiteral = 5
number_of OutOfRange = 6
number_of SecondRule = 7
number_of SheetTooLong = 8
number_of BufferTooSmall = 9
number_of WrongByte = 10
number_of NameTooLong = 11
number_of TooManyNames = 12
number_of TooManyInBody = 13
number_of TooManyWords = 14
number_of TextRoomTooSmall = 15
number_of NoSuchAtom = 16
number_of BrokenRecord = 17
number_of NotSettled = 18
number_of NotATruthCode = 20
number_of TextBroken = 21
number_of LineNotJustified = 22
number_of NotAModel = 34

-- 1: N above 512; place 0
abbrev pub too_many_atoms : Refusal
too_many_atoms = refusal (number_of TooManyAtoms) 0

-- 2: table above 8,192 words; place 0
abbrev pub table_too_long : Refusal
table_too_long = refusal (number_of TableTooLong) 0

-- 3: value room below N bytes; place 0
abbrev pub value_room_too_small : Refusal
value_room_too_small = refusal (number_of ValueRoomTooSmall) 0

-- 4: record cut short; place: table length
abbrev pub cut_short : ℕ → Refusal
cut_short words = refusal (number_of CutShort) words

-- 5: literal code not below 2N; place: that word
abbrev pub not_a_literal : ℕ → Refusal
not_a_literal word = refusal (number_of NotALiteral) word

-- 6: m above 64, or k 0 or above 64, or a line number above 32,768; place: that word
abbrev pub out_of_range : ℕ → Refusal
out_of_range word = refusal (number_of OutOfRange) word

-- 7: second rule for one head; place: the head (word, or byte of the literal)
abbrev pub second_rule : ℕ → Refusal
second_rule head = refusal (number_of SecondRule) head

-- 8: sheet above 65,536 bytes; place 0
abbrev pub sheet_too_long : Refusal
sheet_too_long = refusal (number_of SheetTooLong) 0

-- 9: word buffer below 8,192 or name buffer below 512 entries; place 0
abbrev pub buffer_too_small : Refusal
buffer_too_small = refusal (number_of BufferTooSmall) 0

-- 10: byte that cannot stand there, or sheet ended inside a line; place: that byte; sheet length
abbrev pub wrong_byte : ℕ → Refusal
wrong_byte byte = refusal (number_of WrongByte) byte

-- 11: name above 24 bytes; place: its 25th byte
abbrev pub name_too_long : ℕ → Refusal
name_too_long byte = refusal (number_of NameTooLong) byte

-- 12: 513th name; place: name's first byte
abbrev pub too_many_names : ℕ → Refusal
too_many_names byte = refusal (number_of TooManyNames) byte

-- 13: 65th group, or 65th literal in a group; place: literal's first byte
abbrev pub too_many_in_body : ℕ → Refusal
too_many_in_body byte = refusal (number_of TooManyInBody) byte

-- 14: words would pass 8,192; place: literal's first byte
abbrev pub too_many_words : ℕ → Refusal
too_many_words byte = refusal (number_of TooManyWords) byte

-- 15: value sheet, or reason sheet, does not fit the text room; place: bytes needed
abbrev pub text_room_too_small : ℕ → Refusal
text_room_too_small needed = refusal (number_of TextRoomTooSmall) needed

-- 16: picked atom not below N; place 0
abbrev pub no_such_atom : Refusal
no_such_atom = refusal (number_of NoSuchAtom) 0

-- 17: record has a mark at N or above, or its stored count is not the number of marks; place 0
abbrev pub broken_record : Refusal
broken_record = refusal (number_of BrokenRecord) 0

-- 18: report before settled; place 0
abbrev pub not_settled : Refusal
not_settled = refusal (number_of NotSettled) 0

-- 20: truth code above 3 handed to a connective, place 0; value code above 3, place: atom
abbrev pub not_a_truth_code : ℕ → Refusal
not_a_truth_code atom = refusal (number_of NotATruthCode) atom

-- 21: text of a reason sheet broken; place: its first bad byte, or its length
abbrev pub text_broken : ℕ → Refusal
text_broken byte = refusal (number_of TextBroken) byte

-- 22: line of a reason sheet missing, out of order or surplus, then not justified or rank above 1,023; place: line, from 1
abbrev pub line_not_justified : ℕ → Refusal
line_not_justified line = refusal (number_of LineNotJustified) line

-- 34: values not a model; place: head word of the first rule not satisfied
abbrev pub not_a_model : ℕ → Refusal
not_a_model word = refusal (number_of NotAModel) word
