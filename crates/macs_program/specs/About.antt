-- The output of `about`.
use Rattle.std.specs.Prelude.{◌≡◌, ◌++◌, ℕ, List, codes, string_bytes}
use Rattle.macs_texts.specs.Programs.{word_line}
use Rattle.macs_texts.specs.declared.build.Build.{Build}
use Rattle.macs_cli.specs.Help.{topic_text}
use Rattle.macs_cli.specs.declared.words.help.Topic.TheVariants.{Version}
use Rattle.macs_program.specs.declared.build.TheConstants.{COMMIT, LEVEL, PROVED, TOOLCHAIN, VERSION}

-- the formats of the journal that it writes and reads
abbrev pub formats_text : List ℕ
formats_text =
    word_line (codes "journal writes format") (codes "2") ++ word_line (codes "journal reads formats") (codes "1, 2")

-- the program's version, the commit of its sources, the toolchain that built it, the processors it is built for, and
-- those formats
abbrev pub about_text : List ℕ
about_text =
    topic_text Version ++ (word_line (codes "commit") COMMIT.now ++ (word_line (codes "toolchain") TOOLCHAIN.now
    ++ (word_line (codes "built for") LEVEL.now ++ formats_text)))

-- a build is this one, as its metrics name it
abbrev pub IsThisBuild : Build → Type 0
IsThisBuild build =
    (string_bytes build.version ≡ VERSION.now) × (string_bytes build.commit ≡ COMMIT.now)
    × (string_bytes build.proved ≡ PROVED.now)
