-- Which program runs, and since when.
use Rattle.std.specs.Prelude.{ℕ, List, ◌++◌, codes, string_bytes, Option}
use Rattle.macs_texts.specs.Lines.{known_line, line}
use Rattle.macs_texts.specs.declared.build.Build.{Build}

-- the line of a word: its name and value
abbrev pub word_line : List ℕ → List ℕ → List ℕ
word_line name word = line (name ++ (codes " " ++ word))

-- the version, the commit of the sources, whether each function was proved, and when the run began,
-- in seconds since the beginning of 1970, if known
abbrev pub about_text : Build → Option ℕ → List ℕ
about_text build started =
    word_line (codes "macsecd") (string_bytes build.version)
    ++ (word_line (codes "commit") (string_bytes build.commit)
    ++ (word_line (codes "proved") (string_bytes build.proved) ++ known_line (codes "started") started))
