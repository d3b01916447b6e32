mod Signatures
