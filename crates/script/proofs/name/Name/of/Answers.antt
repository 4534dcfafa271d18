use Rattle.std.proofs.Common.{◌≡◌, ℕ, List, length, codes, sym, ap, arith}
use Rattle.std.proofs.lemmas.Slice.Eq.{HasBytesAt, text_from_reads}
use Rattle.script.specs.Name.{name_of}
use Rattle.script.proofs.name.Name.of.Goals as goal

-- a word with the length and the bytes of a name is that name
reads : (word name : List ℕ) → length word ≡ length name → HasBytesAt word 0 name → name_of name ≡ name_of word
reads word name len bytes = sym (ap name_of (text_from_reads word name len bytes))

pub returns-in-poke : goal.returns-in-poke
returns-in-poke c = reads c.args.word.now (codes "poke") (omega arith) (search arith)

pub returns-in-peek : goal.returns-in-peek
returns-in-peek c = reads c.args.word.now (codes "peek") (omega arith) (search arith)

pub returns-in-write : goal.returns-in-write
returns-in-write c = reads c.args.word.now (codes "write") (omega arith) (search arith)

pub returns-in-read : goal.returns-in-read
returns-in-read c = reads c.args.word.now (codes "read") (omega arith) (search arith)

pub returns-in-mode : goal.returns-in-mode
returns-in-mode c = reads c.args.word.now (codes "mode") (omega arith) (search arith)

pub returns-in-access : goal.returns-in-access
returns-in-access c = reads c.args.word.now (codes "access") (omega arith) (search arith)

pub returns-in-resolve : goal.returns-in-resolve
returns-in-resolve c = reads c.args.word.now (codes "resolve") (omega arith) (search arith)

pub returns-in-drop : goal.returns-in-drop
returns-in-drop c = reads c.args.word.now (codes "drop") (omega arith) (search arith)

pub returns-in-dropall : goal.returns-in-dropall
returns-in-dropall c = reads c.args.word.now (codes "dropall") (omega arith) (search arith)

pub returns-in-tally : goal.returns-in-tally
returns-in-tally c = reads c.args.word.now (codes "tally") (omega arith) (search arith)
