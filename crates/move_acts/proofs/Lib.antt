mod OptionLaws
